-- The order in which projects are built.
use Rattle.std.specs.Prelude.{◌≡◌, ◌⊎◌, ◌↔◌, ℕ, Bool, List, [], ◌∷◌, ◌++◌, length, map, nat_lt}
use Rattle.std.specs.List.{AllPairs, Contains, filter, flat_map}
use Rattle.std.specs.declared.cmp.Ordering.TheVariants.{Less}
use Rattle.std.specs.Ordering.{nat_cmp}
use Rattle.std.specs.Cmp.Lexicographic.{slice_cmp}
use Rattle.res_path.specs.Paths.{Names}

-- the name of each project, and the names to which it refers
abbrev pub Projects : Type 0
Projects = List (List ℕ × Names)

-- the first name comes before the second, byte by byte
abbrev pub IsBefore : List ℕ → List ℕ → Type 0
IsBefore a b = slice_cmp nat_cmp a b ≡ Less

-- some project has the name
abbrev pub IsProject : Projects → List ℕ → Type 0
IsProject ps n = Contains (map (λ p. p.0) ps) n

-- project a refers to project b; what is referred to and is no project doesn't count
pub record Refers (ps : Projects) (a b : List ℕ) : Type 0 where
  pub references : Names
  pub here : Contains ps (a, references)
  pub there : Contains references b
  pub project : IsProject ps b

-- from a one step after another leads by these to b; no step leads from a to itself
abbrev pub IsWay : {X : Type 0} → (X → X → Type 0) → X → List X → X → Type 0
IsWay R a [] b = a ≡ b
IsWay R a (m ∷ ms) b = R a m × IsWay R m ms b

-- steps lead from a to b
abbrev pub Leads : {X : Type 0} → (X → X → Type 0) → X → X → Type 0
Leads {X} R a b = (ms : List X) × IsWay R a ms b

-- references lead from each to the other: both are in one component
abbrev pub AreMutual : Projects → List ℕ → List ℕ → Type 0
AreMutual ps a b = Leads (Refers ps) a b × Leads (Refers ps) b a

-- a project that isn't placed, while all to which its component refers outside itself is
pub record IsReady (ps : Projects) (placed : Names) (n : List ℕ) : Type 0 where
  pub project : IsProject ps n
  pub waits : Contains placed n → ⊥
  pub free : (m p : List ℕ) → AreMutual ps n m → Refers ps m p → Contains placed p ⊎ AreMutual ps n p

-- the group is the component that comes next
pub record IsNext (ps : Projects) (placed : Names) (group : Names) : Type 0 where
  -- its members by name, each once
  pub first : List ℕ
  pub others : Names
  pub is : group ≡ first ∷ others
  pub by_name : AllPairs IsBefore group
  -- with each member all that are in one component with it, and no others
  pub whole : (m n : List ℕ) → Contains group m → Contains group n ↔ AreMutual ps m n
  -- it may come, and of those that may it has the least name
  pub ready : (m : List ℕ) → Contains group m → IsReady ps placed m
  pub least : (n : List ℕ) → IsReady ps placed n → (first ≡ n) ⊎ IsBefore first n

-- one component comes after another until all projects are placed
abbrev pub InOrder : Projects → Names → List Names → Type 0
InOrder ps placed [] = (n : List ℕ) → IsProject ps n → Contains placed n
InOrder ps placed (group ∷ groups) = IsNext ps placed group × InOrder ps (placed ++ group) groups

-- two or more projects
abbrev pub is_knot : Names → Bool
is_knot group = nat_lt 1 (length group)

-- all projects in the order of their components, and the components that are knots
pub record IsOrder (ps : Projects) (order : Names) (knots : List Names) : Type 0 where
  pub groups : List Names
  pub in_order : InOrder ps [] groups
  pub placed : order ≡ flat_map (λ group. group) groups
  pub tied : knots ≡ filter is_knot groups
