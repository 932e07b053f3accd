-- Projects as a graph of the places of their names.
use Rattle.std.specs.Prelude.{◌≡◌, ◌≢◌, ◌⊎◌, ℕ, ◌<◌, List, [], length, get_or, map}
use Rattle.std.specs.List.{AllPairs, Contains}
use Rattle.res_path.specs.Paths.{Names}
use Rattle.build_order.specs.Orders.{Projects, IsBefore, IsProject}
use Rattle.build_order.specs.Inside.Graphs.{Graph, Refers}

abbrev pub name_at : Names → ℕ → List ℕ
name_at names n = get_or names n []

-- of these projects one of the first name refers to the second name
abbrev pub RefersIn : Projects → List ℕ → List ℕ → Type 0
RefersIn ps a b = (references : Names) × Contains ps (a, references) × Contains references b

-- the names of the projects in order, each once
pub record AreNames (ps : Projects) (names : Names) : Type 0 where
  pub rising : AllPairs IsBefore names
  pub all : (n : List ℕ) → IsProject ps n → Contains names n
  pub only : (n : List ℕ) → Contains names n → IsProject ps n

-- the graph has the references of these projects, and no others
pub record AreRows (ps : Projects) (names : Names) (g : Graph) : Type 0 where
  pub as_long : length g ≡ length names
  pub all : (a b : ℕ) → a < length names → b < length names → RefersIn ps (name_at names a) (name_at names b) → Refers g a b
  pub only : (a b : ℕ) → Refers g a b → (b < length names) × RefersIn ps (name_at names a) (name_at names b)

-- the place `from` got those of these names that are there, and no others did
pub record IsAdded (names : Names) (from : ℕ) (references : Names) (old new : Graph) : Type 0 where
  pub as_long : length new ≡ length old
  pub others : (a : ℕ) → a ≢ from → get_or new a [] ≡ get_or old a []
  pub kept : (b : ℕ) → Refers old from b → Refers new from b
  pub all : (b : ℕ) → b < length names → Contains references (name_at names b) → Refers new from b
  pub only : (b : ℕ) → Refers new from b → Refers old from b ⊎ ((b < length names) × Contains references (name_at names b))

-- the names of a component's members
abbrev pub group_of : Names → List (List ℕ) → ℕ → Names
group_of names members l = map (name_at names) (get_or members l [])
