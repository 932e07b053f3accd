-- What a crash leaves of a store's two areas.
use Rattle.std.specs.Prelude.{◌≡◌, ◌≤◌, ◌<◌, ◌+◌, ◌-◌, ◌^◌, ◌⊎◌, ℕ, List, [], ◌∷◌, ◌++◌, length, Bool, true, false, if◌then◌else◌, nat_le, Option, Some, None, Ok, unwrap_or}
use Rattle.ws_outside.specs.declared.contents.Contents.{Contents}
use Rattle.ws_outside.specs.declared.contents.Which.{Which}
use Rattle.ws_outside.specs.Disk.{held, Each}
use Rattle.ws_outside.specs.Faults.{Rose}
use Rattle.disk_area.specs.declared.pieces.Head.{Head}
use Rattle.disk_area.specs.Reading.{head_of}
use Rattle.disk_area.specs.Writes.{IsShut, SameBehind}
use Rattle.area_store.specs.declared.desk.Desk.{Desk}
use Rattle.area_store.specs.declared.faults.SaveFault.{SaveFault}
use Rattle.area_store.specs.declared.faults.SaveFault.TheVariants.{Disk, TooLarge, NumbersUsed}
use Rattle.area_pair.specs.declared.texts.Texts.{Texts}
use Rattle.area_pair.specs.Reads.{other, reads, IsWhole, Loses}

-- what areas stand for: texts, or nothing yet
abbrev pub Point : Type 0
Point = Option Texts

-- a save of an image has no record
abbrev pub saved : List ℕ → Point
saved image = Some record { image = image; records = [] }

-- texts with a record more
abbrev pub with_record : List ℕ → Texts → Texts
with_record body texts = record { image = texts.image; records = texts.records ++ body ∷ [] }

-- a point with a record more, where it has texts
abbrev pub recorded : List ℕ → Point → Point
recorded body None = None
recorded body (Some texts) = Some (with_record body texts)

-- one of these points
abbrev pub Among : Point → List Point → Type 0
Among point [] = ⊥
Among point (p ∷ points) = (point ≡ p) ⊎ Among point points

-- both areas are read as one of these points
abbrev pub ReadsAs : List Point → Contents → Type 0
ReadsAs points both = (point : Point) × Among point points × (reads both ≡ Ok point)

-- an area that stands for nothing: one that is known to be shut, or else too short for a head
abbrev pub IsUnused : Bool → List ℕ → Type 0
IsUnused true bytes = IsShut bytes
IsUnused false bytes = length bytes < 57

-- an area stands for a point; for nothing it has the number 0
abbrev pub Stands : Bool → ℕ → Point → List ℕ → Type 0
Stands shut number None bytes = (number ≡ 0) × IsUnused shut bytes
Stands shut number (Some texts) bytes = (shut ≡ false) × ((gate : ℕ) × IsWhole number texts gate bytes)

-- the same, with the place of its gate
abbrev pub StandsAt : Bool → ℕ → Option ℕ → Point → List ℕ → Type 0
StandsAt shut number None None bytes = (number ≡ 0) × IsUnused shut bytes
StandsAt shut number (Some gate) None bytes = ⊥
StandsAt shut number None (Some texts) bytes = ⊥
StandsAt shut number (Some gate) (Some texts) bytes = (shut ≡ false) × IsWhole number texts gate bytes

-- The area that is written next doesn't count, or it is chosen and stands for one of these points.
abbrev pub IsSpare : Which → ℕ → List Point → List ℕ → Type 0
IsSpare home number begun bytes = (head_of bytes ≡ Ok None)
    ⊎ ((head : Head) × Loses home number head.number × (head_of bytes ≡ Ok (Some head)))
    ⊎ ((n : ℕ) × (texts : Texts) × (gate : ℕ) × (number < n) × Among (Some texts) begun × IsWhole n texts gate bytes)

-- the same, whatever its gate is torn to
abbrev pub IsTornSafe : Which → ℕ → List Point → List ℕ → Type 0
IsTornSafe home number begun bytes = (torn : List ℕ) → SameBehind bytes torn → IsSpare home number begun torn

-- Each crash image is read as the first of these points, the one that was saved or opened last, or as one begun after it.
pub record IsKept {D : Type 0} (may_leave : D → Contents → Type 0) (first : Point) (begun : List Point) (desk : Desk D) : Type 0 where
  pub number : ℕ
  pub below : number ≤ desk.top
  -- the home area stands for one of the points, and where the last save didn't fail for the first
  pub stands : Each (may_leave desk.disk) (λ c. (point : Point) × Among point (first ∷ begun) × Stands desk.home_shut number point (held desk.home c))
  pub sure : desk.failed ≡ false → Each (may_leave desk.disk) (λ c. StandsAt desk.home_shut number desk.gate first (held desk.home c))
  -- the spare one is known to be shut, or it stands for a point or for nothing, whatever its gate is torn to
  pub shut : desk.spare_shut ≡ true → Each (may_leave desk.disk) (λ c. IsShut (held (other desk.home) c))
  pub torn : desk.spare_shut ≡ false → Each (may_leave desk.disk) (λ c. IsTornSafe desk.home number begun (held (other desk.home) c))
  pub calm : desk.failed ≡ false → desk.spare_shut ≡ false → Each (may_leave desk.disk) (λ c. IsTornSafe desk.home number [] (held (other desk.home) c))

-- some point was saved or opened last
abbrev pub IsSound : {D : Type 0} → (D → Contents → Type 0) → Desk D → Type 0
IsSound may_leave desk = ∥ ((first : Point) × (begun : List Point) × IsKept may_leave first begun desk) ∥₁

-- the most bytes that a record's body may have, where one may be written
abbrev pub room_at : Bool → Option ℕ → Option ℕ
room_at failed None = None
room_at failed (Some gate) = if failed then None else (if nat_le (gate + 42) (2 ^ 30) then Some (2 ^ 30 - (gate + 42)) else None)

-- the room that a store has for a record
abbrev pub room_of : {D : Type 0} → Desk D → Option ℕ
room_of desk = room_at desk.failed desk.gate

-- the place of the gate behind the acknowledged texts
abbrev pub gate_of : {D : Type 0} → Desk D → ℕ
gate_of desk = unwrap_or desk.gate 0

-- `Disk` exactly where the count rose
abbrev pub FaultOf : ℕ → ℕ → SaveFault → Type 0
FaultOf old new Disk = Rose old new
FaultOf old new TooLarge = new ≡ old
FaultOf old new NumbersUsed = new ≡ old
