-- What became of each command of a build.
use Rattle.std.specs.Prelude.{◌≡◌, ℕ, Bool, true, false, List, [], ◌∷◌, IfSome}
use Rattle.ws_elem.specs.Stamps.{AgreeByStamps}
use Rattle.builder_api.specs.declared.edits.Edits.{Edits}
use Rattle.builder_api.specs.declared.handed.Handed.{Handed}
use Rattle.builder_api.specs.declared.kind.BuildKind.{BuildKind}
use Rattle.builder_api.specs.Meanings.{Meanings}
use Rattle.builder_api.specs.Lawful.{Right}
use Rattle.build_laws.specs.States.{Item, task, State, last_built, last_tree, due, Finds}
use Rattle.build_laws.specs.Commits.{IsCommitted}

-- what was handed in which state, and which edits were committed in which state, with what they touched and left
pub record Work : Type 0 where
  pub first : State
  pub handed : Handed
  pub then : State
  pub edits : Edits
  pub touched : ℕ
  pub problems : ℕ
  pub after : State

-- a command in its turn, for a kind that is asked for: passed over in a state, or built
pub data Turn : Type 0 where
  Skip : BuildKind → Item → State → Turn
  Make : BuildKind → Item → Work → Turn

-- what stands after a turn, and after some
abbrev pub after : Turn → State
after (Skip kind i s) = s
after (Make kind i w) = w.after

abbrev pub after_all : State → List Turn → State
after_all s [] = s
after_all s (x ∷ xs) = after_all (after x) xs

-- the tree and the one that was built last for the command have equal contents under equal stamps
abbrev pub IsStamped : State → Item → Type 0
IsStamped s i = IfSome (last_built s i) (λ b. AgreeByStamps (b.tree ∷ s.tree ∷ []))

-- what is due is handed, and what is committed is right
pub record IsMade (ms : Meanings) (has : List ℕ → Bool) (s : State) (kind : BuildKind) (i : Item) (w : Work) : Type 0 where
  pub present : has i.command.builder ≡ true
  pub found : Finds s w.first
  pub due : w.handed ≡ due w.first i kind
  pub still : Finds w.first w.then
  pub committed : IsCommitted w.then i w.edits w.touched w.problems w.after
  pub right : Right ms (task i) w.handed.delta (last_tree w.then i) w.then.tree w.edits

abbrev pub IsTurn : Meanings → (List ℕ → Bool) → State → Turn → Type 0
IsTurn ms has s (Skip kind i found) = (has i.command.builder ≡ false) × Finds s found
IsTurn ms has s (Make kind i w) = IsMade ms has s kind i w

-- each turn is so where the ones before it lead
abbrev pub AreTurns : Meanings → (List ℕ → Bool) → State → List Turn → Type 0
AreTurns ms has s [] = Unit {0}
AreTurns ms has s (x ∷ xs) = IsTurn ms has s x × AreTurns ms has (after x) xs
