-- The first damage of two areas, bad texts among it.
use Rattle.std.specs.Prelude.{◌≡◌, ◌⊎◌, ℕ, ◌+◌, ◌-◌, ◌^◌, min, List, [], ◌∷◌, length, Option, Some, None, Result, Ok, Err}
use Rattle.std.specs.FinMap.{empty}
use Rattle.ws_outside.specs.declared.contents.Contents.{Contents}
use Rattle.ws_outside.specs.declared.contents.Which.{Which}
use Rattle.ws_outside.specs.Disk.{held}
use Rattle.ws_outside.specs.Faults.{Rose}
use Rattle.ws_elem.specs.Trees.{Tree}
use Rattle.ws_durable.specs.Saved.{Saved}
use Rattle.disk_area.specs.declared.bodies.Area.{Area}
use Rattle.disk_area.specs.declared.damage.Damage.{Damage}
use Rattle.disk_area.specs.declared.damage.DamageCause.{DamageCause}
use Rattle.disk_area.specs.declared.damage.DamageCause.TheVariants as damage
use Rattle.disk_area.specs.Reading.{Place, area_of}
use Rattle.save_read.specs.declared.error.ReadError.{ReadError}
use Rattle.save_read.specs.declared.error.ReadError.TheVariants.{Bad, Memory}
use Rattle.save_read.specs.declared.error.TextCause.{TextCause}
use Rattle.save_read.specs.declared.error.TextCause.TheVariants.{BadText, BadState}
use Rattle.save_read.specs.Texts.{IsText, IsSpelled, StopsAt}
use Rattle.save_format.specs.Valid.{Valid, IsImage, IsRecord}
use Rattle.area_pair.specs.declared.texts.Texts.{Texts}
use Rattle.area_pair.specs.Reads.{Heads, in_area, heads_of, chosen}
use Rattle.save_store.specs.declared.faults.OpenFault.{OpenFault}
use Rattle.save_store.specs.declared.faults.OpenFault.TheVariants as open_fault
use Rattle.save_store.specs.States.{StandFor}

-- ---- bad texts

-- a place further on in an area; the last one that a number of 64 bits names stands for all behind it
abbrev pub further : ℕ → ℕ → ℕ
further at more = min (at + more) (2 ^ 64 - 1)

-- where a text that tells no state is refused: where it can't go on; or, where it goes on to its end, at its start
abbrev pub StopsFor : Tree → Tree → List ℕ → TextCause → ℕ → Type 0
StopsFor base shelf body BadText at = StopsAt base shelf body at
StopsFor base shelf body BadState at = (at ≡ 0) × IsSpelled base shelf body

-- A text that starts here tells no state that may be kept, and is refused at this place.
pub record IsBad (base shelf : Tree) (start : ℕ) (body : List ℕ) (at : ℕ) (cause : TextCause) : Type 0 where
  pub none : (d : Saved) → Valid d → IsText base shelf d body → ⊥
  pub inside : ℕ
  pub stops : StopsFor base shelf body cause inside
  pub place : at ≡ further start inside

-- the first bad one of records behind a state, the first of which has its gate here
abbrev pub BadRecord : Saved → ℕ → List (List ℕ) → ℕ → TextCause → Type 0
BadRecord d gate [] at cause = ⊥
BadRecord d gate (body ∷ bodies) at cause = IsBad d.tree d.shelf (further gate 41) body at cause
    ⊎ ((next : Saved) × IsRecord d next body × BadRecord next (further (further gate 41) (length body)) bodies at cause)

-- the first bad text of an area
abbrev pub BadTexts : Texts → ℕ → TextCause → Type 0
BadTexts texts at cause = IsBad empty empty 57 texts.image at cause
    ⊎ ((first : Saved) × IsImage first texts.image × BadRecord first (further 57 (length texts.image)) texts.records at cause)

-- a refusal of a text that starts here
abbrev pub moved : ℕ → ReadError → ReadError
moved start (Bad at cause) = Bad (further start at) cause
moved start Memory = Memory

-- what a reader answers; where memory wanted it tells nothing
abbrev pub FailsFor : (ℕ → TextCause → Type 0) → ReadError → Type 0
FailsFor bad (Bad at cause) = bad at cause
FailsFor bad Memory = Unit {0}

-- ---- areas

abbrev pub cause_of : TextCause → DamageCause
cause_of BadText = damage.BadText
cause_of BadState = damage.BadState

abbrev pub text_damage : Which → ℕ → TextCause → Damage
text_damage area at cause = record { area = area; at = at; cause = cause_of cause }

-- a refusal of a text, as the damage of its area
abbrev pub as_damage : Which → ReadError → OpenFault
as_damage area (Bad at cause) = open_fault.Damaged (text_damage area at cause)
as_damage area Memory = open_fault.Memory

-- the first bad text of an area, as its damage
abbrev pub SpoilsTexts : Which → Texts → Damage → Type 0
SpoilsTexts area texts d = (at : ℕ) × (cause : TextCause) × BadTexts texts at cause × (d ≡ text_damage area at cause)

abbrev pub texts_of_area : Area → Texts
texts_of_area whole = record { image = whole.image; records = whole.records }

-- the first damage of an area that was read: of its head or its image; or its first bad text; or else what its records end at
abbrev pub Spoils : Which → Result (Option Area) Place → Damage → Type 0
Spoils area (Err place) d = d ≡ in_area area place
Spoils area (Ok None) d = ⊥
Spoils area (Ok (Some whole)) d = SpoilsTexts area (texts_of_area whole) d
    ⊎ ((state : Saved) × (place : Place) × StandFor (texts_of_area whole) state × (whole.end ≡ Err place) × (d ≡ in_area area place))

-- The first damage of both areas: of the left head, of the right head, and then of the area that decides.
abbrev pub IsDamaged : Contents → Damage → Type 0
IsDamaged both d = (heads_of both ≡ Err d)
    ⊎ ((heads : Heads) × (area : Which) × (heads_of both ≡ Ok heads) × (chosen heads ≡ Some area) × Spoils area (area_of (held area both)) d)

-- a fault of opening tells this damage; where the disk failed or memory wanted it tells none
abbrev pub TellsDamage : (Damage → Type 0) → OpenFault → Type 0
TellsDamage is open_fault.Disk = Unit {0}
TellsDamage is (open_fault.Damaged d) = is d
TellsDamage is open_fault.Memory = Unit {0}

-- a fault that tells no damage
abbrev pub IsUndamaged : OpenFault → Type 0
IsUndamaged open_fault.Disk = Unit {0}
IsUndamaged (open_fault.Damaged d) = ⊥
IsUndamaged open_fault.Memory = Unit {0}

-- what a fault tells where nothing is read of a disk
abbrev pub OfTexts : (Damage → Type 0) → OpenFault → Type 0
OfTexts is open_fault.Disk = ⊥
OfTexts is (open_fault.Damaged d) = is d
OfTexts is open_fault.Memory = Unit {0}

-- `Disk` exactly where the count rose
abbrev pub FaultOf : ℕ → ℕ → OpenFault → Type 0
FaultOf old new open_fault.Disk = Rose old new
FaultOf old new (open_fault.Damaged _) = new ≡ old
FaultOf old new open_fault.Memory = new ≡ old
