-- Graphs of numbers.
use Rattle.std.specs.Prelude.{◌≡◌, ◌⊎◌, ℕ, ◌<◌, ◌≤◌, List, [], length, get_or}
use Rattle.std.specs.List.{Contains}
use Rattle.build_order.specs.Orders.{Leads}

-- for each number those to which it refers
abbrev pub Graph : Type 0
Graph = List (List ℕ)

abbrev pub Refers : Graph → ℕ → ℕ → Type 0
Refers g a b = Contains (get_or g a []) b

-- whatever is referred to is a number of the graph
abbrev pub IsWithin : Graph → Type 0
IsWithin g = (a b : ℕ) → Refers g a b → b < length g

abbrev pub at : List ℕ → ℕ → ℕ
at numbers n = get_or numbers n 0

-- for each number the least one of its component
pub record AreLeads (g : Graph) (leads : List ℕ) : Type 0 where
  pub as_long : length leads ≡ length g
  pub least : (a : ℕ) → a < length g → at leads a ≤ a
  pub lead : (a : ℕ) → a < length g → at leads (at leads a) ≡ at leads a
  pub together : (a b : ℕ) → a < length g → b < length g → at leads a ≡ at leads b → Leads (Refers g) a b
  -- references lead down, but for those inside a component
  pub rank : ℕ → ℕ
  pub down : (a b : ℕ) → Refers g a b → (at leads b ≡ at leads a) ⊎ (rank (at leads b) < rank (at leads a))
