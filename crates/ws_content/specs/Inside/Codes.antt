-- How contents and their parts are stored.
use Rattle.std.specs.Prelude.{ℕ, Option, refl}
use Rattle.std.specs.Coded.{Coded, code_by, coded×, coded_ℕ, coded_list, coded_option}
use Rattle.std.specs.FinMap as map
use Rattle.proj_desc.specs.declared.command.Command.{Command}
use Rattle.ws_elem.specs.declared.element.Element.{Element}
use Rattle.ws_elem.specs.RoomyTrees.{names_code}
use Rattle.ws_elem.specs.Trees.{Tree}
use Rattle.op_kind.specs.Partners.{Partners}
use Rattle.op_kind.specs.Resources.{Resources}
use Rattle.ws_marks.specs.Inside.{records_code, states_code}
use Rattle.ws_marks.specs.Places.{Records, States}
use Rattle.ws_content.specs.States.{Contents, Remembered}

abbrev pub tree_code : Coded Element → Coded Tree
tree_code e = map.code names_code e

abbrev pub resources_code : Coded Element → Coded Resources
resources_code e = code_by (Tree × (Tree × (ℕ × (ℕ × (ℕ × Partners)))))
    (coded× (tree_code e) (coded× (tree_code e) (coded× coded_ℕ (coded× coded_ℕ (coded× coded_ℕ (coded_list (coded_list coded_ℕ)))))))
    (λ r. (r.tree, (r.shelf, (r.next_node, (r.next_stamp, (r.next_marker, r.partners))))))
    (λ p. record { tree = p.0; shelf = p.1.0; next_node = p.1.1.0; next_stamp = p.1.1.1.0; next_marker = p.1.1.1.1.0; partners = p.1.1.1.1.1 })
    (λ _. refl)

abbrev pub remembered_code : Coded Element → Coded Command → Coded Remembered
remembered_code e c = code_by (Tree × (Tree × (Records Tree × (States Tree × Option (States Tree)))))
    (coded× (tree_code e) (coded× (tree_code e) (coded× (records_code c (tree_code e)) (coded× (states_code (tree_code e)) (coded_option (states_code (tree_code e)))))))
    (λ r. (r.start, (r.told, (r.built, (r.kept, r.before)))))
    (λ p. record { start = p.0; told = p.1.0; built = p.1.1.0; kept = p.1.1.1.0; before = p.1.1.1.1 })
    (λ _. refl)

abbrev pub contents_code : Coded Element → Coded Command → Coded Contents
contents_code e c = code_by (Resources × Remembered) (coded× (resources_code e) (remembered_code e c))
    (λ x. (x.resources, x.remembered)) (λ p. record { resources = p.0; remembered = p.1 }) (λ _. refl)
