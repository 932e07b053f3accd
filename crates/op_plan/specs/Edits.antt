-- What stands at some paths is changed, one after another.
use Rattle.std.specs.Prelude.{◌≡◌, true, List, [], ◌∷◌, Option}
use Rattle.res_path.specs.Paths.{Names}
use Rattle.ws_elem.specs.declared.element.Element.{Element}
use Rattle.ws_elem.specs.Trees.{Tree, set_at}
use Rattle.ws_elem.specs.Rooms.{Room, has_room}

-- what is to stand at some paths, nothing where it is None
abbrev pub Edits : Type 0
Edits = List (Names × Option Element)

-- the tree after these edits, made in their order
abbrev pub changed : Tree → Edits → Tree
changed t [] = t
changed t (c ∷ cs) = changed (set_at t c.0 c.1) cs

-- each of the paths has room
abbrev pub HasRooms : Room → Edits → Type 0
HasRooms r [] = Unit {0}
HasRooms r (c ∷ cs) = (has_room r c.0 ≡ true) × HasRooms r cs

-- what had room has it still
abbrev pub KeepsRoom : Room → Room → Type 0
KeepsRoom r s = (p : Names) → has_room r p ≡ true → has_room s p ≡ true
