-- The parts of a text: what stands between its slashes.
use Rattle.std.specs.Prelude.{◌≡◌, ℕ, ◌+◌, Bool, not, ◌==◌, nat_lt, if◌then◌else◌, List, [], ◌∷◌, length, Option, Some, None}
use Rattle.std.specs.List.{slice_split, list_all}
use Rattle.res_path.specs.declared.error.PathError.{PathError}
use Rattle.res_path.specs.declared.error.PathError.TheVariants.{BadSegment, TooDeep, TooLong}
use Rattle.res_path.specs.Names.{is_name}
use Rattle.res_path.specs.Paths.{Names, IsPath, slashed}

abbrev pub is_slash : ℕ → Bool
is_slash b = b == 47

abbrev pub has_no_slash : List ℕ → Bool
has_no_slash bytes = list_all (λ b. not (is_slash b)) bytes

-- the parts of what follows the first slash, none where nothing stands there
abbrev pub parts_of : List ℕ → Names
parts_of [] = []
parts_of (b ∷ bytes) = slice_split is_slash bytes

-- where the first part that is no name begins; the first part begins at `at`, each other one after a slash
abbrev pub first_bad : ℕ → Names → Option ℕ
first_bad at [] = None
first_bad at (part ∷ parts) = if is_name part then first_bad (at + length part + 1) parts else Some at

-- where the first bad part of a path's text begins: 0 where it doesn't begin with a slash; the root's slash has none
abbrev pub bad_segment : List ℕ → Option ℕ
bad_segment [] = Some 0
bad_segment (b ∷ []) = if is_slash b then None else Some 0
bad_segment (b ∷ c ∷ bytes) = if is_slash b then first_bad 1 (slice_split is_slash (c ∷ bytes)) else Some 0

-- how many parts a path's text has: the root's slash has none
abbrev pub part_count : List ℕ → ℕ
part_count [] = 0
part_count (b ∷ []) = 0
part_count (b ∷ c ∷ bytes) = length (slice_split is_slash (c ∷ bytes))

abbrev pub segment_fault : Option ℕ → ℕ → Option PathError
segment_fault (Some at) count = Some (BadSegment at)
segment_fault None count = if nat_lt 64 count then Some TooDeep else None

-- why a text is no path, the first cause that applies: its length, its first bad segment, its depth
abbrev pub path_fault : List ℕ → Option PathError
path_fault text = if nat_lt 4096 (length text) then Some TooLong else segment_fault (bad_segment text) (part_count text)

-- the bytes that a path is kept in: a slash before each name
pub record IsKept (bytes : List ℕ) : Type 0 where
  pub path : IsPath (parts_of bytes)
  pub spelled : slashed (parts_of bytes) ≡ bytes
