-- Slots of two layers, made one.
use Rattle.std.specs.Prelude.{◌≡◌, ⊤, is_some, if◌then◌else◌, Option, Some, None}
use Rattle.std.specs.FinMap.{get, insert}
use Rattle.res_path.specs.Paths.{Names}
use Rattle.elem_tree.specs.declared.slot.Slot.{Slot}
use Rattle.elem_tree.specs.declared.slot.Slot.TheVariants.{Spare}
use Rattle.elem_tree.specs.Inside.Slots.{Slots, note_of, note_in, ready_in}

-- the slot, or a spare one where there was none
abbrev pub MaySpare : Option Slot → Option Slot → Type 0
MaySpare (Some s) after = after ≡ Some s
MaySpare None None = ⊤
MaySpare None (Some s) = s ≡ Spare

-- the same slots, and spare ones beside them
abbrev pub IsSpared : Slots → Slots → Type 0
IsSpared slots after = (p : Names) → MaySpare (get slots p) (get after p)

-- the earlier note, or else what the later layer keeps
pub record IsJoined (earlier later both : Slots) : Type 0 where
  pub noted : (p : Names) → note_in (get both p) ≡ (if is_some (note_in (get earlier p)) then note_in (get earlier p) else note_in (get later p))
  pub ready : (p : Names) → ready_in (get both p) ≡ (if is_some (note_in (get earlier p)) then None else ready_in (get later p))

-- the slot is p's, where it is a note
abbrev pub over_at : Slots → Names → Slot → Slots
over_at slots p slot = if is_some (note_of slot) then insert slots p slot else slots

-- the slot is p's, unless there is a note
abbrev pub under_at : Slots → Names → Slot → Slots
under_at slots p slot = if is_some (note_in (get slots p)) then slots else insert slots p slot
