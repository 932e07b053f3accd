-- Components placed one after another, each under its least number.
use Rattle.std.specs.Prelude.{◌≡◌, ◌≢◌, ◌⊎◌, ℕ, ◌+◌, ◌<◌, ◌≤◌, ◌==◌, Bool, true, false, cond, List, [], ◌∷◌, ◌++◌, length, get_or}
use Rattle.std.specs.List.{Contains, sum_by}
use Rattle.build_order.specs.declared.places.Places.{Places}
use Rattle.build_order.specs.Inside.Graphs.{Graph, Refers, IsWithin, AreLeads, at}

-- the component of l isn't placed, and whatever it refers to outside itself is
pub record IsReady (g : Graph) (leads done : List ℕ) (l : ℕ) : Type 0 where
  pub within : l < length g
  pub lead : at leads l ≡ l
  pub waits : Contains done l → ⊥
  pub free : (u w : ℕ) → at leads u ≡ l → Refers g u w → (at leads w ≡ l) ⊎ Contains done (at leads w)

-- the ready one with the least number
pub record IsNext (g : Graph) (leads done : List ℕ) (l : ℕ) : Type 0 where
  pub ready : IsReady g leads done l
  pub least : (m : ℕ) → IsReady g leads done m → l ≤ m

-- one after another until all are placed
abbrev pub InTurn : Graph → List ℕ → List ℕ → List ℕ → Type 0
InTurn g leads done [] = (n : ℕ) → n < length g → Contains done (at leads n)
InTurn g leads done (l ∷ ls) = IsNext g leads done l × InTurn g leads (done ++ l ∷ []) ls

abbrev pub is_done : List Bool → ℕ → Bool
is_done placed l = get_or placed l false

-- what refers from inside the component of l, or is placed, holds nothing up
abbrev pub IsBehind : List ℕ → List Bool → ℕ → ℕ → Type 0
IsBehind leads placed l w = (at leads w ≡ l) ⊎ (is_done placed (at leads w) ≡ true)

pub record IsWaiting (g : Graph) (leads : List ℕ) (placed : List Bool) (l : ℕ) : Type 0 where
  pub within : l < length g
  pub lead : at leads l ≡ l
  pub waits : is_done placed l ≡ false

-- l refers to m, which isn't placed
pub record IsParked (g : Graph) (leads : List ℕ) (placed : List Bool) (m l : ℕ) : Type 0 where
  pub within : l < length g
  pub lead : at leads l ≡ l
  pub other : m ≢ l
  pub waits : is_done placed m ≡ false
  pub from : ℕ
  pub to : ℕ
  pub inside : at leads from ≡ l
  pub refers : Refers g from to
  pub is : at leads to ≡ m

pub record IsFree (g : Graph) (leads : List ℕ) (placed : List Bool) (l : ℕ) : Type 0 where
  pub waiting : IsWaiting g leads placed l
  pub behind : (u w : ℕ) → at leads u ≡ l → Refers g u w → IsBehind leads placed l w

-- what holds between two steps; the pending are to be looked at
pub record Holds (g : Graph) (leads pending : List ℕ) (p : Places) : Type 0 where
  pub inside : IsWithin g
  pub are_leads : AreLeads g leads
  pub long_targets : length p.targets ≡ length g
  pub long_parked : length p.parked ≡ length g
  pub long_placed : length p.is_placed.items ≡ length g
  -- what a component refers to is still among its targets, or holds nothing up
  pub ahead : (u w : ℕ) → Refers g u w → Contains (get_or p.targets (at leads u) []) w ⊎ IsBehind leads p.is_placed.items (at leads u) w
  pub own : (l w : ℕ) → Contains (get_or p.targets l []) w → (u : ℕ) × (at leads u ≡ l) × Refers g u w
  pub are_pending : (l : ℕ) → Contains pending l → IsWaiting g leads p.is_placed.items l
  pub are_free : (l : ℕ) → Contains p.free l → IsFree g leads p.is_placed.items l
  pub are_parked : (m l : ℕ) → Contains (get_or p.parked m []) l → IsParked g leads p.is_placed.items m l
  pub each : (l : ℕ) → IsWaiting g leads p.is_placed.items l → Contains pending l ⊎ Contains p.free l ⊎ (m : ℕ) × Contains (get_or p.parked m []) l
  -- what is placed was placed in turn, and whatever it refers to is placed
  pub closed : (u w : ℕ) → Refers g u w → is_done p.is_placed.items (at leads u) ≡ true → is_done p.is_placed.items (at leads w) ≡ true
  pub placed : (l : ℕ) → is_done p.is_placed.items l ≡ true → Contains p.order.items l
  pub only : (l : ℕ) → Contains p.order.items l → is_done p.is_placed.items l ≡ true
  pub in_turn : (ls : List ℕ) → InTurn g leads p.order.items ls → InTurn g leads [] (p.order.items ++ ls)

-- a component was taken from the free ones, of which it is the least
pub record CanPlace (g : Graph) (leads : List ℕ) (l : ℕ) (p : Places) : Type 0 where
  pub holds : Holds g leads (l ∷ []) p
  pub free : IsFree g leads p.is_placed.items l
  pub gone : Contains p.free l → ⊥
  pub least : (m : ℕ) → Contains p.free m → l ≤ m

-- how many aren't placed
abbrev pub one_unless : Bool → ℕ
one_unless placed = cond placed 0 1

abbrev pub left : List Bool → ℕ
left placed = sum_by one_unless placed

-- the leads from a place on
abbrev pub leads_from : ℕ → List ℕ → List ℕ
leads_from i [] = []
leads_from i (l ∷ leads) = cond (l == i) (i ∷ leads_from (i + 1) leads) (leads_from (i + 1) leads)

-- the list ends with the number
abbrev pub IsLast : List ℕ → ℕ → Type 0
IsLast numbers n = (front : List ℕ) × (numbers ≡ front ++ n ∷ [])
