-- How a tree with marks is stored.
use Rattle.std.specs.Prelude.{ℕ, List, refl}
use Rattle.std.specs.Coded.{Coded, code_by, coded×, coded_ℕ, coded_list, coded_option}
use Rattle.std.specs.FinMap as map
use Rattle.res_path.specs.Paths.{path_cmp}
use Rattle.ws_elem.specs.RoomyTrees.{RoomyTree, names_code, roomy_code}
use Rattle.ws_elem.specs.declared.element.Element.{Element}
use Rattle.elem_tree.specs.Layers.{Befores, Layer, LayeredTree}

-- a layer as the pair of its fields
abbrev pub layer_code : Coded Element → Coded Layer
layer_code e = code_by (ℕ × Befores) (coded× coded_ℕ (map.code {R = path_cmp} names_code (coded_option e))) (λ l. (l.mark, l.befores)) (λ p. record { mark = p.0; befores = p.1 }) (λ _. refl)

-- a tree with marks as its tree with room, and its layers
abbrev pub layered_code : Coded Element → Coded LayeredTree
layered_code e =
    code_by (RoomyTree × List Layer) (coded× (roomy_code e) (coded_list (layer_code e)))
    (λ t. (record { map = t.map; room = t.room }, t.layers)) (λ p. record { map = p.0.map; room = p.0.room; layers = p.1 }) (λ _. refl)
