-- The text of what is kept.
use Rattle.std.specs.Prelude.{◌≡◌, ℕ, List, length, take, Err}
use Rattle.ws_elem.specs.Trees.{Tree}
use Rattle.ws_durable.specs.Saved.{Saved}
use Rattle.save_form.specs.Forms.{Form, read_all}
use Rattle.save_form.specs.Laws.{IsFirst}
use Rattle.save_form.specs.declared.stop.Stop.{Stop}
use Rattle.save_form.specs.declared.stop.Stop.TheVariants.{Short, Bad}
use Rattle.save_state.specs.declared.state.State.{State}
use Rattle.save_state.specs.Fits.{FitsState}
use Rattle.save_state.specs.States.{state}
use Rattle.save_build.specs.Told.{told_tree, IsTold}
use Rattle.save_read.specs.Sayable.{IsSayable}

-- the bytes spell a state that tells this
abbrev pub Spells : Tree → Tree → Saved → List ℕ → State → Type 0
Spells base shelf d bytes s =
    FitsState (told_tree base) (told_tree shelf) s × IsTold base shelf s d × (bytes ≡ (state (told_tree base) (told_tree shelf)).spell s)

-- Against a base tree and a base shelf the bytes are the text of what is kept: of the paths whose entries differ from the
-- bases', in path order, and of the rest.
pub record IsText (base shelf : Tree) (d : Saved) (bytes : List ℕ) : Type 0 where
  pub sayable : IsSayable d
  pub spelled : (s : State) × Spells base shelf d bytes s

-- how a state is spelled against a base tree and a base shelf
abbrev pub form_of : Tree → Tree → Form State
form_of base shelf = state (told_tree base) (told_tree shelf)

-- The bytes spell some state, whatever it tells, to their end.
abbrev pub IsSpelled : Tree → Tree → List ℕ → Type 0
IsSpelled base shelf bytes = (s : State) × FitsState (told_tree base) (told_tree shelf) s × (bytes ≡ (form_of base shelf).spell s)

-- Where bytes can't go on: at their end where they are too few, else at what can't stand there.
abbrev pub stop_in : List ℕ → Stop → ℕ
stop_in bytes (Short at) = length bytes
stop_in bytes (Bad at) = at

-- The bytes can't go on at this place, and at none before it.
pub record StopsAt (base shelf : Tree) (bytes : List ℕ) (at : ℕ) : Type 0 where
  pub stop : Stop
  pub read : read_all (form_of base shelf) bytes ≡ Err stop
  pub there : at ≡ stop_in bytes stop
  pub first : IsFirst (form_of base shelf) bytes stop
  -- what can't stand in a front of them can't stand in them either
  pub fronts : (n m : ℕ) → read_all (form_of base shelf) (take n bytes) ≡ Err (Bad m) → stop ≡ Bad m
