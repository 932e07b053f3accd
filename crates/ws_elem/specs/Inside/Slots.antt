-- How a tree with room is kept: a slot for each path with an element, and an empty one for each other path with room.
use Rattle.std.specs.Prelude.{◌≡◌, ℕ, Bool, true, false, not, cond, List, [], ◌∷◌, Option, None, Some}
use Rattle.std.specs.BTreeMap.{is_at}
use Rattle.std.specs.FinMap.{empty, len}
use Rattle.std.specs.List.{list_any}
use Rattle.std.specs.Map.{lookup}
use Rattle.res_path.specs.Paths.{Names, path_cmp}
use Rattle.ws_elem.specs.declared.element.Element.{Element}
use Rattle.ws_elem.specs.Trees.{Tree, set_at}

-- in path order
abbrev pub Slots : Type 0
Slots = List (Names × Option Element)

-- the slot of a path, if it has one
abbrev pub slot_at : Slots → Names → Option (Option Element)
slot_at slots p = lookup (is_at (path_cmp p)) slots

-- whether the path is among these
abbrev pub is_among : List Names → Names → Bool
is_among ps p = list_any (is_at (path_cmp p)) ps

-- the elements in the slots, by path
abbrev pub tree_of : Slots → Tree
tree_of [] = empty
tree_of (s ∷ slots) = set_at (tree_of slots) s.0 s.1

abbrev pub unless_empty : Names → Option Element → List (Names × Element) → List (Names × Element)
unless_empty p None es = es
unless_empty p (Some e) es = (p, e) ∷ es

-- the slots that aren't empty, as entries
abbrev pub filled : Slots → List (Names × Element)
filled [] = []
filled (s ∷ slots) = unless_empty s.0 s.1 (filled slots)

-- whether a path with this slot may have room, or lack it
abbrev pub agrees : Option (Option Element) → Bool → Bool
agrees None has = not has
agrees (Some None) has = has
agrees (Some (Some e)) has = true

-- the new slots have this slot at p, and the others as before
abbrev pub SetsSlot : Slots → Slots → Names → Option (Option Element) → Type 0
SetsSlot old new p slot = (q : Names) → slot_at new q ≡ cond (is_at (path_cmp p) q) slot (slot_at old q)

-- a slot whose element was taken, where it stays or doesn't
abbrev pub emptied : Bool → Option (Option Element)
emptied true = Some None
emptied false = None

-- the paths have p or lack it, and the others as before
abbrev pub SetsRoom : List Names → List Names → Names → Bool → Type 0
SetsRoom old new p has = (q : Names) → is_among new q ≡ cond (is_at (path_cmp p) q) has (is_among old q)

-- a path that is kept apart, if any, and the others
abbrev pub one_and : Option Names → List Names → List Names
one_and None ps = ps
one_and (Some p) ps = p ∷ ps

-- whether this path is kept apart
abbrev pub is_kept_apart : Option Names → Names → Bool
is_kept_apart None p = false
is_kept_apart (Some q) p = is_at (path_cmp p) q

-- the slot with room made in it
abbrev pub opened : Option (Option Element) → Option (Option Element)
opened None = Some None
opened (Some e) = Some e

-- the slot with e in it, unless an element is there
abbrev pub filled_by : Element → Option (Option Element) → Option (Option Element)
filled_by e None = Some (Some e)
filled_by e (Some None) = Some (Some e)
filled_by e (Some (Some x)) = Some (Some x)

-- there is a slot, without an element
abbrev pub is_empty_slot : Option (Option Element) → Bool
is_empty_slot None = false
is_empty_slot (Some None) = true
is_empty_slot (Some (Some e)) = false

-- the slot, unless it is empty
abbrev pub closed : Option (Option Element) → Option (Option Element)
closed None = None
closed (Some None) = None
closed (Some (Some e)) = Some (Some e)

-- slots, the paths with room, and how many elements there are
pub record IsKept (slots : Slots) (room : List Names) (elements : ℕ) : Type 0 where
  -- an empty slot has room, and a path with room has a slot
  pub roomy : (p : Names) → agrees (slot_at slots p) (is_among room p) ≡ true
  pub counted : elements ≡ len (tree_of slots)
