-- What an area is read as at each moment while it is written.
use Rattle.std.specs.Prelude.{◌≡◌, ◌⊎◌, ℕ, List, [], ◌∷◌, ◌++◌, length, Bool, false, Ok, None}
use Rattle.disk_area.specs.Area.{area_text, IsArea}
use Rattle.disk_area.specs.Reading.{head_of, IsClosedAt, ReadsAsSave, ReadsAsRecord}
use Rattle.disk_area.specs.Writes.{KeepsFront, SameBehind}

-- while a save is written an area is closed, or it is read as the save; where its gate wasn't known to be shut, it may
-- also be as before but for its gate
abbrev pub Saving : Bool → ℕ → List ℕ → List ℕ → List ℕ → Type 0
Saving closed number image old new = (head_of new ≡ Ok None) ⊎ ReadsAsSave number image new ⊎ ((closed ≡ false) × SameBehind old new)

-- an area that ended at this gate has its pieces, and may have this record behind them
abbrev pub KeepsPieces : ℕ → List ℕ → List ℕ → List ℕ → Type 0
KeepsPieces gate body old new = (number : ℕ) (image : List ℕ) (records : List (List ℕ)) → IsArea number image records old → gate ≡ length (area_text number image records)
    → IsArea number image records new ⊎ IsArea number image (records ++ body ∷ []) new

-- an area that ended at this gate has its pieces, and this record behind them
abbrev pub GainsRecord : ℕ → List ℕ → List ℕ → List ℕ → Type 0
GainsRecord gate body old new = (number : ℕ) (image : List ℕ) (records : List (List ℕ)) → IsArea number image records old → gate ≡ length (area_text number image records)
    → IsArea number image (records ++ body ∷ []) new

-- while a record is written at a gate all before the gate stays, and the gate is closed or the record is read there
pub record Growing (gate : ℕ) (body old new : List ℕ) : Type 0 where
  pub before : KeepsFront gate old new
  pub reads : IsClosedAt gate new ⊎ ReadsAsRecord gate body new
  pub pieces : KeepsPieces gate body old new
