-- How the open projects of a tree are found.
use Rattle.std.specs.Prelude.{◌≡◌, ◌⊎◌, ℕ, List, [], ◌∷◌, ◌++◌, length, filter, flat_map, Option, Some, None, option_map}
use Rattle.std.specs.List.{Contains}
use Rattle.std.specs.Ordering.{nat_cmp, is_lt}
use Rattle.std.specs.Cmp.Lexicographic.{slice_cmp}
use Rattle.std.specs.BTreeMap.{BTreeMap, get}
use Rattle.std.specs.FinMap.{entries}
use Rattle.res_path.specs.Paths.{Names, path_cmp}
use Rattle.ws_elem.specs.declared.element.Element.{Element}
use Rattle.ws_elem.specs.Trees.{Tree}
use Rattle.proj_desc.specs.declared.command.Command.{Command}
use Rattle.build_order.specs.Orders.{Projects}
use Rattle.build_plan.specs.Descriptions.{desc_at}
use Rattle.build_plan.specs.Ordered.{names_of}
use Rattle.build_plan.specs.Plans.{project_of}

-- the entries above p in path order
abbrev pub entries_after : Tree → Names → List (Names × Element)
entries_after t p = filter (λ e. is_lt (path_cmp p e.0)) (entries t)

-- the open projects among them
abbrev pub projects_after : Tree → Names → Projects
projects_after t p = flat_map (λ x. project_of x.0 x.1) (entries_after t p)

-- the name, where the path is of one
abbrev pub only_name : Names → Option (List ℕ)
only_name [] = None
only_name (name ∷ []) = Some name
only_name (name ∷ other ∷ names) = None

-- p is q, or lies below the project q
abbrev pub IsPast : Names → Names → Type 0
IsPast q p = (p ≡ q) ⊎ ((length q ≡ 1) × (name : List ℕ) × (p ≡ q ++ name ∷ []))

-- the commands of projects by their names
abbrev pub CommandMap : Type 0
CommandMap = BTreeMap (List ℕ) (List Command)

abbrev pub commands_in : CommandMap → List ℕ → Option (List Command)
commands_in = get (slice_cmp nat_cmp)

-- the map has the commands that each of these projects describes
abbrev pub HasCommands : Tree → Projects → CommandMap → Type 0
HasCommands t ps m = (n : List ℕ) → Contains (names_of ps) n → commands_in m n ≡ option_map (λ d. d.commands) (desc_at t n)
