-- What a layer keeps of some paths, and what it records with that.
use Rattle.std.specs.Prelude.{◌≡◌, Bool, true, is_some, ◌||◌, if◌then◌else◌, List, [], ◌∷◌, Option, Some, None, IfSome}
use Rattle.std.specs.FinMap.{FinMap, empty, entries, get, insert, remove}
use Rattle.res_path.specs.Paths.{Names, path_cmp}
use Rattle.ws_elem.specs.Rooms.{Room, has_room}
use Rattle.ws_elem.specs.Trees.{Tree}
use Rattle.ws_elem.specs.declared.element.Element.{Element}
use Rattle.elem_tree.specs.declared.slot.Slot.{Slot}
use Rattle.elem_tree.specs.declared.slot.Slot.TheVariants.{Spare, Ready, Noted}
use Rattle.elem_tree.specs.Layers.{Befores}

abbrev pub Slots : Type 0
Slots = FinMap path_cmp Slot

-- the entry before, where it is noted
abbrev pub note_of : Slot → Option (Option Element)
note_of Spare = None
note_of (Ready x) = None
note_of (Noted x) = Some x

-- the entry that is ready
abbrev pub ready_of : Slot → Option (Option Element)
ready_of Spare = None
ready_of (Ready x) = Some x
ready_of (Noted x) = None

abbrev pub note_in : Option Slot → Option (Option Element)
note_in None = None
note_in (Some s) = note_of s

abbrev pub ready_in : Option Slot → Option (Option Element)
ready_in None = None
ready_in (Some s) = ready_of s

-- the entry is known, noted or ready
abbrev pub is_known : Option Slot → Bool
is_known s = is_some (note_in s) || is_some (ready_in s)

abbrev pub touched : Slot → Slot
touched Spare = Spare
touched (Ready x) = Noted x
touched (Noted x) = Noted x

abbrev pub with_note : Befores → Names → Option (Option Element) → Befores
with_note befores p None = remove befores p
with_note befores p (Some x) = insert befores p x

abbrev pub befores_in : List (Names × Slot) → Befores
befores_in [] = empty
befores_in (e ∷ es) = with_note (befores_in es) e.0 (note_of e.1)

-- what is recorded with the slots
abbrev pub befores_of : Slots → Befores
befores_of slots = befores_in (entries slots)

-- an entry is ready just at the paths with room that nothing was noted of, and it is the newest tree's
pub record IsReady (slots : Slots) (t : Tree) (room : Room) : Type 0 where
  pub ready : (p : Names) → IfSome (ready_in (get slots p)) (λ x. (x ≡ get t p) × (has_room room p ≡ true))
  pub roomy : (p : Names) → has_room room p ≡ true → is_known (get slots p) ≡ true

-- no entry is ready
abbrev pub NoneReady : Slots → Type 0
NoneReady slots = (p : Names) → ready_in (get slots p) ≡ None

-- something is put or taken at p
abbrev pub touched_slot : Slots → Names → Option Slot → Slots
touched_slot slots p None = slots
touched_slot slots p (Some s) = insert slots p (touched s)

abbrev pub touched_at : Slots → Names → Slots
touched_at slots p = touched_slot slots p (get slots p)

-- the entry before p's first put or take: the known one, or else x
abbrev pub noted_at : Slots → Names → Option Element → Slots
noted_at slots p x = if is_known (get slots p) then touched_at slots p else insert slots p (Noted x)

-- p's entry x is ready, unless one is known
abbrev pub readied_at : Slots → Names → Option Element → Slots
readied_at slots p x = if is_known (get slots p) then slots else insert slots p (Ready x)

-- p's slot is gone where its entry is ready
abbrev pub closed_at : Slots → Names → Slots
closed_at slots p = if is_some (ready_in (get slots p)) then remove slots p else slots

abbrev pub closed_all : Slots → List Names → Slots
closed_all slots [] = slots
closed_all slots (p ∷ ps) = closed_all (closed_at slots p) ps

-- p has a slot
abbrev pub spared_at : Slots → Names → Slots
spared_at slots p = if is_some (get slots p) then slots else insert slots p Spare
