-- What stands for remembered trees: one number in each of several slots.
use Rattle.std.specs.Prelude.{◌≡◌, ℕ, zero, suc, List, [], ◌∷◌, Option, Some, None, IsSome}
use Rattle.std.specs.Option.{option_map}
use Rattle.std.specs.FinMap.{get}
use Rattle.ws_elem.specs.Trees.{Tree}
use Rattle.ws_marks.specs.declared.state.Replaced.{Replaced}
use Rattle.ws_marks.specs.declared.state.State.{State}
use Rattle.ws_marks.specs.Marked.{Marked, since_begin}
use Rattle.ws_marks.specs.Places.{Place}

-- where a tree is remembered: as the workspace was opened, as it was told last, as a command was built last, in what a
-- participant keeps, and in a state that was replaced since the save under way began, so many before it
pub data Slot : Type 0 where
  AtStart : Slot
  AtTold : Slot
  AtBuilt : Place → Slot
  AtKept : List ℕ → Slot
  AtReplaced : ℕ → Slot

abbrev pub Slots : Type 0
Slots = Slot → Option ℕ

-- the number stands in one of the slots
abbrev pub IsIn : Slots → ℕ → Type 0
IsIn u k = (s : Slot) × (u s ≡ Some k)

-- a tree is remembered under each number, and no number stands in two slots
pub record AreApart (f : ℕ → Option Tree) (u : Slots) : Type 0 where
  pub there : (k : ℕ) → IsIn u k → IsSome (f k)
  pub apart : (s z : Slot) (k : ℕ) → u s ≡ Some k → u z ≡ Some k → s ≡ z

-- the state that was replaced after so many others
abbrev pub replaced_at : {M : Type 0} → List (Replaced M) → ℕ → Option (State M)
replaced_at [] n = None
replaced_at (r ∷ rs) zero = r.before
replaced_at (r ∷ rs) (suc n) = replaced_at rs n

-- the number of the state's tree
abbrev pub number_of : {M : Type 0} → (M → ℕ) → Option (State M) → Option ℕ
number_of number None = None
number_of number (Some s) = option_map number s.tree

abbrev pub number_in : {M : Type 0} → (M → ℕ) → ℕ → Marked M → Slots
number_in number start m AtStart = Some start
number_in number start m AtTold = Some (number m.told)
number_in number start m (AtBuilt place) = option_map (λ r. number r.tree) (get m.built place)
number_in number start m (AtKept name) = number_of number (get m.kept name)
number_in number start m (AtReplaced n) = number_of number (replaced_at (since_begin m.replaced) n)
