-- The order in which projects are built, computed.
use Rattle.std.specs.Prelude.{ℕ, zero, suc, Bool, not, ◌&&◌, ◌||◌, List, [], ◌∷◌, ◌++◌, map, length, filter, find}
use Rattle.std.specs.List.{list_all, list_any}
use Rattle.std.specs.Option.{option_map_or}
use Rattle.std.specs.Str.{bytes_eq}
use Rattle.res_path.specs.Paths.{Names}
use Rattle.build_order.specs.Orders.{Projects}

abbrev pub names_of : Projects → Names
names_of ps = map (λ p. p.0) ps

-- the name is one of these
abbrev pub is_among : Names → List ℕ → Bool
is_among names n = list_any (bytes_eq n) names

-- project a refers to project b
abbrev pub refers_to : Projects → List ℕ → List ℕ → Bool
refers_to ps a b = is_among (names_of ps) b && list_any (λ p. bytes_eq a p.0 && is_among p.1 b) ps

-- references lead from a to b, through none but these projects
abbrev pub leads_through : Projects → Names → List ℕ → List ℕ → Bool
leads_through ps [] a b = bytes_eq a b || refers_to ps a b
leads_through ps (m ∷ ms) a b = leads_through ps ms a b || (leads_through ps ms a m && leads_through ps ms m b)

-- references lead from a to b
abbrev pub leads_to : Projects → List ℕ → List ℕ → Bool
leads_to ps = leads_through ps (names_of ps)

-- the projects to which the project leads, and which lead back
abbrev pub component : Projects → List ℕ → Names
component ps n = filter (λ m. leads_to ps n m && leads_to ps m n) (names_of ps)

-- a project that isn't placed, while all to which it leads is, but for what leads back
abbrev pub is_ready : Projects → Names → List ℕ → Bool
is_ready ps placed n = not (is_among placed n) && list_all (λ m. not (leads_to ps n m) || (is_among placed m || leads_to ps m n)) (names_of ps)

-- the component of the first project that is ready, then the next one, at most so many
abbrev pub groups_after : Projects → ℕ → Names → List Names
groups_after ps zero placed = []
groups_after ps (suc count) placed =
    option_map_or (λ n. component ps n ∷ groups_after ps count (placed ++ component ps n)) (find (is_ready ps placed) (names_of ps)) []

-- of projects in the order of their names the components, each after all to which it leads
abbrev pub ordered : Projects → List Names
ordered ps = groups_after ps (length ps) []
