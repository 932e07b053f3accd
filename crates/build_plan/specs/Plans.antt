-- The plan of a build.
use Rattle.std.specs.Prelude.{ℕ, List, [], ◌∷◌, map, filter, flat_map, Option, Some, None, unwrap_or, option_map}
use Rattle.std.specs.Option.{option_map_or}
use Rattle.std.specs.FinMap.{entries}
use Rattle.res_path.specs.Paths.{Names}
use Rattle.ws_elem.specs.declared.element.Element.{Element}
use Rattle.ws_elem.specs.Trees.{Tree}
use Rattle.builder_api.specs.declared.plan.Plan.{Plan}
use Rattle.build_order.specs.Orders.{Projects, is_knot}
use Rattle.build_laws.specs.States.{Descs}
use Rattle.build_laws.specs.Builds.{Project}
use Rattle.build_plan.specs.Descriptions.{described_by, desc_at}
use Rattle.build_plan.specs.Ordered.{ordered}

-- an open project with the names to which its description refers; nothing else is one
abbrev pub project_of : Names → Element → Projects
project_of [] e = []
project_of (name ∷ []) e = option_map_or (λ d. (name, d.references) ∷ []) (described_by name e) []
project_of (name ∷ other ∷ names) e = []

-- the open projects in the order of their names
abbrev pub projects_of : Tree → Projects
projects_of t = flat_map (λ x. project_of x.0 x.1) (entries t)

-- the project with the commands that are described
abbrev pub with_commands : Descs → List ℕ → Project
with_commands descs project = (project, unwrap_or (option_map (λ d. d.commands) (descs project)) [])

-- the plan of a build of all open projects, or of one project alone
abbrev pub plan : Tree → Option (List ℕ) → Plan
plan t None = record {
  order = map (with_commands (desc_at t)) (flat_map (λ group. group) (ordered (projects_of t)));
  knots = filter is_knot (ordered (projects_of t));
}
plan t (Some project) = record { order = with_commands (desc_at t) project ∷ []; knots = [] }
