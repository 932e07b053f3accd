-- What contracts see of workers, and what is known where all passes have met.
use Rattle.std.specs.Prelude.{◌≡◌, ◌<◌, ◌+◌, ℕ, Bool, false, List, [], length, get_or}
use Rattle.ws_core.specs.States.{Moment}
use Rattle.run_order.specs.Lists.{Begins}
use Rattle.run_order.specs.Fronts.{Front}
use Rattle.phase_pool.specs.Passes.{Known}
use Rattle.phase_pool.specs.declared.worker.Worker.{Worker}

-- a worker: its pass, and whether it has stopped
pub record Hand : Type 0 where
  pub known : Known
  pub stopped : Bool

abbrev pub hand : {P : Type 0} → (P → Known) → Worker P → Hand
hand knows w = record { known = knows w.pass; stopped = w.stopped }

-- what stands for a worker where there is none
abbrev pub nobody : Hand
nobody = record { known = record { number = 0; seen = [] }; stopped = false }

-- the worker at the place
abbrev pub worker_at : List Hand → ℕ → Hand
worker_at hands i = get_or hands i nobody

-- Pass 0 let in a pass for each worker, numbered from 1 on. None of these has seen what pass 0 hasn't, and what that one
-- has may follow the state s.
pub record LetIn (s : Moment) (k : Known) (hands : List Hand) : Type 0 where
  pub front : Front (length hands) s k.seen
  pub zeroth : k.number ≡ 0
  pub numbers : (i : ℕ) → i < length hands → (worker_at hands i).known.number ≡ i + 1
  pub begin : (i : ℕ) → i < length hands → Begins (worker_at hands i).known.seen k.seen

-- the same where all passes have met: they have seen the same
pub record Together (s : Moment) (k : Known) (hands : List Hand) : Type 0 where
  pub front : Front (length hands) s k.seen
  pub zeroth : k.number ≡ 0
  pub numbers : (i : ℕ) → i < length hands → (worker_at hands i).known.number ≡ i + 1
  pub seen : (i : ℕ) → i < length hands → (worker_at hands i).known.seen ≡ k.seen

-- no worker has stopped
abbrev pub AllGoOn : List Hand → Type 0
AllGoOn hands = (i : ℕ) → i < length hands → (worker_at hands i).stopped ≡ false
