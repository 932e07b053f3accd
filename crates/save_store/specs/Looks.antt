-- What both areas are told to hold.
use Rattle.std.specs.Prelude.{◌≡◌, ℕ, length, Option, Some, None, Result, Ok, Err}
use Rattle.std.specs.FinMap.{len}
use Rattle.ws_outside.specs.declared.contents.Contents.{Contents}
use Rattle.ws_outside.specs.declared.contents.Which.{Which}
use Rattle.ws_outside.specs.Disk.{picked}
use Rattle.ws_durable.specs.Saved.{Saved}
use Rattle.disk_area.specs.declared.bodies.Area.{Area}
use Rattle.disk_area.specs.declared.damage.Damage.{Damage}
use Rattle.disk_area.specs.declared.pieces.Head.{Head}
use Rattle.disk_area.specs.Reading.{Place, area_of}
use Rattle.area_pair.specs.Reads.{Heads, heads_of, chosen}
use Rattle.save_store.specs.declared.look.Found.{Found}
use Rattle.save_store.specs.Damages.{texts_of_area, Spoils}
use Rattle.save_store.specs.States.{StandFor, Holds}

-- how many records are read in an area: those before its first damage, none where its image has one
abbrev pub records_of : Result (Option Area) Place → ℕ
records_of (Ok None) = 0
records_of (Ok (Some whole)) = length whole.records
records_of (Err place) = 0

-- the save number of an area that is open, with its records
abbrev pub counted : Option Head → Result (Option Area) Place → Option (ℕ × ℕ)
counted None read = None
counted (Some head) read = Some (head.number, records_of read)

-- so many elements has the tree for which an area stands
abbrev pub CountsIn : Result (Option Area) Place → ℕ → Type 0
CountsIn (Ok None) n = n ≡ 1
CountsIn (Ok (Some whole)) n = (state : Saved) × (gate : ℕ) × (whole.end ≡ Ok gate) × StandFor (texts_of_area whole) state × (n ≡ len state.tree)
CountsIn (Err place) n = ⊥

-- the tree of the area that decides; of the fresh workspace where none does
abbrev pub Counts : Option Which → Result (Option Area) Place → Result (Option Area) Place → ℕ → Type 0
Counts None left right n = n ≡ 1
Counts (Some area) left right n = CountsIn (picked area left right) n

-- the first damage of the area that decides
abbrev pub SpoilsChosen : Option Which → Result (Option Area) Place → Result (Option Area) Place → Damage → Type 0
SpoilsChosen None left right d = ⊥
SpoilsChosen (Some area) left right d = Spoils area (picked area left right) d

-- both areas hold what was found
pub record IsLookedAt (both : Contents) (found : Found) : Type 0 where
  pub heads : Heads
  pub are : heads_of both ≡ Ok heads
  pub left : found.left ≡ counted heads.0 (area_of both.left)
  pub right : found.right ≡ counted heads.1 (area_of both.right)
  pub chosen_is : found.chosen ≡ chosen heads
  pub state : Saved
  pub holds : Holds both state
  pub elements : found.elements ≡ len state.tree
