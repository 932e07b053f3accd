-- A tree, and the paths with room in it.
use Rattle.std.specs.Prelude.{refl}
use Rattle.std.specs.Coded.{Coded, code_by, coded×, coded_ℕ, coded_list}
use Rattle.std.specs.FinMap as map
use Rattle.std.specs.FinSet as set
use Rattle.res_path.specs.Paths.{Names}
use Rattle.ws_elem.specs.declared.element.Element.{Element}
use Rattle.ws_elem.specs.Trees.{Tree}
use Rattle.ws_elem.specs.Rooms.{Room}

-- what contracts see of an ordered map of elements
pub record RoomyTree : Type 0 where
  -- what is at each path
  pub map : Tree
  -- the paths with room
  pub room : Room

abbrev pub names_code : Coded Names
names_code = coded_list (coded_list coded_ℕ)

-- a tree with room is stored as the pair of its fields
abbrev pub roomy_code : Coded Element → Coded RoomyTree
roomy_code e =
    code_by (Tree × Room) (coded× (map.code names_code e) (set.code names_code)) (λ t. (t.map, t.room)) (λ p. record { map = p.0; room = p.1 }) (λ _. refl)
