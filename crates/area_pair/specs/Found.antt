-- What is found in two areas.
use Rattle.std.specs.Prelude.{◌≡◌, ℕ, List, [], ◌∷◌, Bool, true, false, if◌then◌else◌, nat_eq, Option, Some, None, Result, Ok, Err}
use Rattle.ws_outside.specs.declared.contents.Contents.{Contents}
use Rattle.ws_outside.specs.declared.contents.Which.{Which}
use Rattle.ws_outside.specs.Disk.{held}
use Rattle.disk_area.specs.declared.bodies.Area.{Area}
use Rattle.disk_area.specs.declared.damage.AreaFault.{AreaFault}
use Rattle.disk_area.specs.declared.damage.AreaFault.TheVariants.{Disk, Damaged, Memory}
use Rattle.disk_area.specs.Reading.{Place, area_of}
use Rattle.area_pair.specs.declared.opening.Found.{Found}
use Rattle.area_pair.specs.declared.texts.Texts.{Texts}
use Rattle.area_pair.specs.Reads.{heads_of, chosen, texts_of, in_area, reads, IsWhole}

-- there is a first byte, and it isn't 01
abbrev pub is_shut : List ℕ → Bool
is_shut [] = false
is_shut (gate ∷ _) = if nat_eq gate 1 then false else true

-- the texts of the chosen area with the place of their gate
abbrev pub Ended : Type 0
Ended = Option (ℕ × Texts)

-- the texts alone
abbrev pub texts_with : Ended → Option Texts
texts_with None = None
texts_with (Some ended) = Some ended.1

-- texts that end at a gate, or at a damage
abbrev pub ended_by : Which → Area → Result ℕ Place → Result Ended AreaFault
ended_by area whole (Ok gate) = Ok (Some (gate, record { image = whole.image; records = whole.records }))
ended_by area whole (Err place) = Err (Damaged (in_area area place))

-- an area's texts and their gate, or the damage at which its records end
abbrev pub ended_of : Which → Area → Result Ended AreaFault
ended_of area whole = ended_by area whole whole.end

-- the chosen area is read as these texts, up to this gate
abbrev pub IsEnded : Contents → Option Which → Ended → Type 0
IsEnded both None None = Unit {0}
IsEnded both None (Some _) = ⊥
IsEnded both (Some area) None = area_of (held area both) ≡ Ok None
IsEnded both (Some area) (Some ended) = (number : ℕ) × IsWhole number ended.1 ended.0 (held area both)

-- A call tells the texts of the chosen area, or exactly their damage.
abbrev pub TellsEnd : Contents → Option Which → Result Ended AreaFault → Type 0
TellsEnd both area (Ok ended) = IsEnded both area ended
TellsEnd both area (Err Disk) = Unit {0}
TellsEnd both area (Err (Damaged damage)) = texts_of both area ≡ Err damage
TellsEnd both area (Err Memory) = Unit {0}

-- both areas are read as this fault says
abbrev pub HasDamage : Contents → AreaFault → Type 0
HasDamage both Disk = Unit {0}
HasDamage both (Damaged damage) = reads both ≡ Err damage
HasDamage both Memory = Unit {0}

-- a head of the two has the damage that this fault says
abbrev pub HeadsDamaged : Contents → AreaFault → Type 0
HeadsDamaged both Disk = Unit {0}
HeadsDamaged both (Damaged damage) = heads_of both ≡ Err damage
HeadsDamaged both Memory = Unit {0}

-- what was found is what stands in both areas
pub record IsFound (both : Contents) (found : Found) : Type 0 where
  pub heads : heads_of both ≡ Ok found.heads
  pub left : found.left_shut ≡ is_shut both.left
  pub right : found.right_shut ≡ is_shut both.right
  pub ended : IsEnded both (chosen found.heads) found.ended
