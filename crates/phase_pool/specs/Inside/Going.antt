-- How a worker goes through a phase.
use Rattle.std.specs.Prelude.{◌≡◌, ℕ, Bool, true, false, List, []}
use Rattle.core_event.specs.declared.entry.Entry.{Entry}
use Rattle.job_queue.specs.Queues.{live}
use Rattle.ws_core.specs.States.{Moment}
use Rattle.ws_core.specs.Histories.{replay}
use Rattle.run_order.specs.Lists.{Cut}
use Rattle.run_order.specs.Plans.{Phase}
use Rattle.run_order.specs.Parts.{Making, Parts}
use Rattle.phase_pool.specs.Passes.{Makes}
use Rattle.phase_pool.specs.Workers.{Hand}

-- what pass k makes of the jobs, by whether it had stopped and has: whole parts, of which the last may be cut where it stops
abbrev pub Went : {C : Type 0} → Making C → Phase C → ℕ → Bool → Bool → List Entry → Type 0
Went Made jobs k false false h = Parts Made jobs k h
Went Made jobs k false true h = Cut (Parts Made jobs k) h
Went Made jobs k true true h = h ≡ []
Went Made jobs k true false h = ⊥

-- the worker went through the phase: no job waits or is run at the end of what it has seen, or it has stopped
pub record Works {C : Type 0} (Made : Making C) (jobs : Phase C) (s : Moment) (v w : Hand) : Type 0 where
  pub went : Makes (Went Made jobs v.known.number v.stopped w.stopped) v.known w.known
  pub over : w.stopped ≡ false → live (replay s w.known.seen).manager.jobs ≡ 0
