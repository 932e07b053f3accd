-- What holds of a pass between its calls, and what its calls leave.
use Rattle.std.specs.Prelude.{◌≡◌, ℕ, List, Result, Ok, Err}
use Rattle.std.specs.declared.alloc.AllocError.{AllocError}
use Rattle.core_event.specs.declared.entry.Entry.{Entry}
use Rattle.core_event.specs.declared.event.Event.TheVariants.{Cancel}
use Rattle.core_event.specs.declared.event.Event.{Event}
use Rattle.ws_core.specs.States.{Moment}
use Rattle.ws_core.specs.Histories.{Legal}
use Rattle.run_order.specs.Lists.{Cut}
use Rattle.pass_turns.specs.Turns.{IsFaithful, Knows}
use Rattle.phase_pool.specs.Passes.{Known, Makes}
use Rattle.pass_jobs.specs.Calls.{pass_of}

-- what phases see of a pass
abbrev pub known : Knows Entry → Known
known k = record { number = k.number; seen = k.seen }

-- what the pass has seen may follow the state s, has its own entries, and such builds of it
pub record IsHere (s : Moment) (Good : ℕ → List Entry → Type 0) (k : Knows Entry) : Type 0 where
  pub legal : Legal s k.seen
  pub faithful : IsFaithful pass_of k
  pub good : Good k.number k.seen

-- the pass made such entries, or the first ones where it gave up
abbrev pub Does : {A : Type 0} → Result A AllocError → (List Entry → Type 0) → Known → Known → Type 0
Does (Ok x) P k j = Makes P k j
Does (Err e) P k j = Makes (Cut P) k j

-- pass 0 cancels the job of this name
abbrev pub cancelling : List ℕ → ℕ × Event
cancelling name = (0, Cancel name)
