-- Components, each under its least number.
use Rattle.std.specs.Prelude.{◌≡◌, ℕ, ◌<◌, List, [], length, get_or}
use Rattle.std.specs.List.{AllPairs, Contains}
use Rattle.build_order.specs.Inside.Graphs.{Graph, Refers, at}

-- of the numbers below the count, under each lead those that have it, in order
pub record AreMembers (leads : List ℕ) (count : ℕ) (members : List (List ℕ)) : Type 0 where
  pub as_long : length members ≡ length leads
  pub rising : (l : ℕ) → AllPairs (λ a b. a < b) (get_or members l [])
  pub own : (l a : ℕ) → Contains (get_or members l []) a → (a < count) × (at leads a ≡ l)
  pub all : (a : ℕ) → a < count → Contains (get_or members (at leads a) []) a

-- of the numbers below the count, under each lead all to which those that have it refer
pub record AreTargets (g : Graph) (leads : List ℕ) (count : ℕ) (targets : List (List ℕ)) : Type 0 where
  pub as_long : length targets ≡ length leads
  pub own : (l w : ℕ) → Contains (get_or targets l []) w → (u : ℕ) × (at leads u ≡ l) × Refers g u w
  pub all : (u w : ℕ) → u < count → Refers g u w → Contains (get_or targets (at leads u) []) w
