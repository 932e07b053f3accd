-- What became of each command of a clean build.
use Rattle.std.specs.Prelude.{◌≡◌, ℕ, Bool, true, false, List, [], ◌∷◌, ◌++◌, map, Some, None}
use Rattle.std.specs.List.{flat_map}
use Rattle.builder_api.specs.declared.outcome.BuildOutcome.{BuildOutcome}
use Rattle.builder_api.specs.declared.outcome.BuildOutcome.TheVariants as outcome
use Rattle.build_laws.specs.States.{Item, State, Finds}
use Rattle.build_laws.specs.Commits.{IsCleaned}
use Rattle.build_laws.specs.Builds.{Project, items_of}
use Rattle.build_run.specs.Books.{Book, Entry, Did, Cleared, CleanUp, at, Adds}

-- a command in a state in which it has no builder, or is cleaned, with the state that this leaves
pub data Sweep : Type 0 where
  Passed : Item → State → Sweep
  Swept : Item → State → State → Sweep

abbrev pub swept_item : Sweep → Item
swept_item (Passed i found) = i
swept_item (Swept i found next) = i

abbrev pub swept_state : Sweep → State
swept_state (Passed i found) = found
swept_state (Swept i found next) = next

abbrev pub last_state : State → List Sweep → State
last_state s [] = s
last_state s (x ∷ xs) = last_state (swept_state x) xs

-- the entry, and what was done outside
abbrev pub sweep_entries : Sweep → List Entry
sweep_entries (Passed i found) = at found (CleanUp i.project i.index (Some 35)) ∷ []
sweep_entries (Swept i found next) = at found (CleanUp i.project i.index None) ∷ []

abbrev pub sweep_calls : Sweep → List Did
sweep_calls (Passed i found) = []
sweep_calls (Swept i found next) = Cleared i ∷ []

abbrev pub IsSweep : (List ℕ → Bool) → State → Sweep → Type 0
IsSweep has s (Passed i found) = (has i.command.builder ≡ false) × Finds s found
IsSweep has s (Swept i found next) = (has i.command.builder ≡ true) × Finds s found × IsCleaned found i next

abbrev pub AreSweeps : (List ℕ → Bool) → State → List Sweep → Type 0
AreSweeps has s [] = Unit {0}
AreSweeps has s (x ∷ xs) = IsSweep has s x × AreSweeps has (swept_state x) xs

-- these commands were cleaned in turn
pub record WereSwept (b : Book) (is : List Item) (b' : Book) : Type 0 where
  pub sweeps : List Sweep
  pub items : map swept_item sweeps ≡ is
  pub adds : Adds b b' (flat_map sweep_entries sweeps) (flat_map sweep_calls sweeps)
  pub now : b'.now ≡ last_state b.now sweeps
  pub are : AreSweeps b.has b.now sweeps

-- the first of them were, and then memory wanted
pub record SweepsHalt (b : Book) (is : List Item) (b' : Book) : Type 0 where
  pub front : List Item
  pub rest : List Item
  pub all : is ≡ front ++ rest
  pub swept : WereSwept b front b'

-- how a clean build came through the commands of a plan
abbrev pub SweptTo : Book → List Project → BuildOutcome → Book → Type 0
SweptTo b order outcome.Cleaned b' = WereSwept b (items_of order) b'
SweptTo b order outcome.NoMemory b' = SweepsHalt b (items_of order) b'
SweptTo b order outcome.Settled b' = ⊥
SweptTo b order (outcome.Unsettled names) b' = ⊥
SweptTo b order (outcome.BuilderFailed p n) b' = ⊥
SweptTo b order (outcome.Refused n) b' = ⊥
