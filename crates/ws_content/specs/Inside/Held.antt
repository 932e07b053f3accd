-- Trees that are remembered under numbers.
use Rattle.std.specs.Prelude.{◌≡◌, ◌≢◌, ℕ, Bool, true, false, map, Option, Some, None}
use Rattle.std.specs.declared.cmp.Ordering.{Ordering}
use Rattle.std.specs.Option.{option_map, unwrap_or}
use Rattle.std.specs.FinMap.{FinMap, empty, entries, from_entries}
use Rattle.ws_elem.specs.Trees.{Tree}
use Rattle.ws_marks.specs.declared.record.Record.{Record}
use Rattle.ws_marks.specs.declared.state.State.{State}
use Rattle.ws_marks.specs.Marked.{Marked, undone, unwound}
use Rattle.ws_marks.specs.Places.{Records, States}
use Rattle.ws_content.specs.States.{Remembered}
use Rattle.ws_content.specs.Inside.Slots.{AreApart, IsIn, number_in}

-- the record with what stands for its tree
abbrev pub retreed : {M N : Type 0} → (M → N) → Record M → Record N
retreed f r = record { project = r.project; index = r.index; command = r.command; references = r.references; tree = f r.tree }

-- the state with what stands for its tree
abbrev pub restated : {M N : Type 0} → (M → N) → State M → State N
restated f s = record { participant = s.participant; bytes = s.bytes; tree = option_map f s.tree }

-- the map with other values
abbrev pub mapped : {K X Y : Type 0} {R : K → K → Ordering} → (X → Y) → FinMap R X → FinMap R Y
mapped f m = from_entries (map (λ e. (e.0, f e.1)) (entries m))

abbrev pub resolved : {M N : Type 0} → (M → N) → Records M → Records N
resolved f rs = mapped (retreed f) rs

abbrev pub resolved_states : {M N : Type 0} → (M → N) → States M → States N
resolved_states f ss = mapped (restated f) ss

-- the tree that is remembered, where there is one
abbrev pub in_memory : Option Tree → Tree
in_memory found = unwrap_or found empty

module _ {M : Type 0} (number : M → ℕ) (start : ℕ) where
  -- the number is that of a tree that is remembered
  abbrev pub IsUsed : Marked M → ℕ → Type 0
  IsUsed m k = IsIn (number_in number start m) k

  -- the tree for which this stands
  abbrev pub tree_of : (ℕ → Option Tree) → M → Tree
  tree_of f x = in_memory (f (number x))

  -- the trees under their numbers
  abbrev pub seen : (ℕ → Option Tree) → Marked M → Remembered
  seen f m = record {
    start = in_memory (f start);
    told = tree_of f m.told;
    built = resolved (tree_of f) m.built;
    kept = resolved_states (tree_of f) m.kept;
    before = option_map (λ rs. resolved_states (tree_of f) (undone m.kept rs)) m.replaced;
  }

  -- all are remembered, each under a number of its own
  abbrev pub AreHeld : (ℕ → Option Tree) → Marked M → Type 0
  AreHeld f m = AreApart f (number_in number start m)

  -- where something is going to be told, the tree is remembered for that under a number that isn't used
  abbrev pub IsReady : (ℕ → Option Tree) → Marked M → Tree → Bool → Option M → Type 0
  IsReady f m t tells None = tells ≡ false
  IsReady f m t tells (Some x) = (tells ≡ true) × (f (number x) ≡ Some t) × (IsUsed m (number x) → ⊥)

  -- these are remembered
  pub record Holds (f : ℕ → Option Tree) (m : Marked M) (v : Remembered) : Type 0 where
    pub held : AreHeld f m
    pub seen : seen f m ≡ v

  -- what was remembered when so many states had been replaced stays
  pub record StaysBehind (count : ℕ) (f : ℕ → Option Tree) (m : Marked M) (g : ℕ → Option Tree) (n : Marked M) : Type 0 where
    pub same : unwound count n ≡ unwound count m
    pub there : (k : ℕ) → IsUsed (unwound count m) k → g k ≡ f k

-- where that is wanted, one more tree is remembered, under a number that wasn't in use
abbrev pub Takes : {M : Type 0} → (M → ℕ) → (ℕ → Option Tree) → (ℕ → Option Tree) → Tree → Bool → Option M → Type 0
Takes number f g t wanted None = (wanted ≡ false) × (g ≡ f)
Takes number f g t wanted (Some x) = (wanted ≡ true) × (f (number x) ≡ None) × (g (number x) ≡ Some t) × ((k : ℕ) → k ≢ number x → g k ≡ f k)
