-- The bytes of an area, in the order in which they stand, and what an area of given pieces is.
use Rattle.std.specs.Prelude.{◌≡◌, ◌≢◌, ◌≤◌, ◌<◌, ◌^◌, ℕ, List, [], ◌∷◌, ◌++◌, length, codes}
use Rattle.sha2.specs.Sha256.{sha256}
use Rattle.ws_wire.specs.Fields.{number_field}

-- the version that is written
abbrev pub written_version : ℕ
written_version = 1

-- bytes 1 to 56: the magic, the version, the save number, and the length and the digest of the image
unfoldable pub header : ℕ → List ℕ → List ℕ
header number image = codes "WSAREA" ++ number_field 2 written_version ++ number_field 8 number ++ number_field 8 (length image) ++ sha256 image

-- an image behind the area's gate, with the closed gate of the first record
abbrev pub behind_gate : ℕ → List ℕ → List ℕ
behind_gate number image = header number image ++ image ++ 0 ∷ []

-- the length and the digest of a record
unfoldable pub record_header : List ℕ → List ℕ
record_header body = number_field 8 (length body) ++ sha256 body

-- a record behind its gate, with the closed gate of the next one
abbrev pub record_behind : List ℕ → List ℕ
record_behind body = record_header body ++ body ++ 0 ∷ []

-- records one behind another, each behind its open gate
abbrev pub records_text : List (List ℕ) → List ℕ
records_text [] = []
records_text (body ∷ bodies) = 1 ∷ record_header body ++ body ++ records_text bodies

-- a save and its records, up to the gate behind them
abbrev pub area_text : ℕ → List ℕ → List (List ℕ) → List ℕ
area_text number image records = 1 ∷ header number image ++ image ++ records_text records

-- an area of these pieces: they are printed, a closed gate stands behind them, and anything behind that
pub record IsArea (number : ℕ) (image : List ℕ) (records : List (List ℕ)) (bytes : List ℕ) : Type 0 where
  pub low : 1 ≤ number
  pub high : number < 2 ^ 63
  pub small : length bytes ≤ 2 ^ 30
  pub gate : ℕ
  pub rest : List ℕ
  pub shut : gate ≢ 1
  pub spelled : bytes ≡ area_text number image records ++ gate ∷ rest
