-- Events that close batches.
use Rattle.std.specs.Prelude.{◌≡◌, ℕ, Bool, true, false, Some, None, IfSome}
use Rattle.job_queue.specs.Queues as queue
use Rattle.job_queue.specs.States.{is_running}
use Rattle.pass_table.specs.Passes.{job_of}
use Rattle.core_event.specs.declared.event.Event.{Event}
use Rattle.core_event.specs.declared.event.Event.TheVariants.{Finish, EndBatch}
use Rattle.job_manager.specs.declared.manager.JobManager.{JobManager}

-- the event closes batches of its pass, where it isn't refused
abbrev pub closes : Event → Bool
closes Finish = true
closes EndBatch = true
closes event = false

-- the job that the pass runs, if it runs one, is one that is run
abbrev pub IsRun : JobManager → ℕ → Type 0
IsRun m pass = IfSome (job_of m.passes pass) (λ name. queue.refusal is_running (queue.state_of m.jobs name) ≡ None)
