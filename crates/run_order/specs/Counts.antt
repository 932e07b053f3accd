-- How often a job was scheduled, and how often it was taken.
use Rattle.std.specs.Prelude.{ℕ, ◌+◌, Bool, if◌then◌else◌, List, [], ◌∷◌, Option, Some, None, filter, length}
use Rattle.std.specs.FinMap.{entries}
use Rattle.job_queue.specs.Queues.{state_of}
use Rattle.job_queue.specs.States.{may_be_cancelled}
use Rattle.job_queue.specs.declared.state.JobState.{JobState}
use Rattle.core_event.specs.declared.entry.Entry.{Entry}
use Rattle.core_event.specs.declared.event.Event.{Event}
use Rattle.core_event.specs.declared.event.Event.TheVariants.{Schedule}
use Rattle.core_event.specs.declared.reply.Answer.{Answer}
use Rattle.core_event.specs.declared.reply.Answer.TheVariants.{Job}
use Rattle.ws_core.specs.States.{Moment}
use Rattle.run_order.specs.Plans.{Phase, is_name}

abbrev pub one_if : Bool → ℕ
one_if is = if is then 1 else 0

-- what an event counts by the job that it schedules
abbrev pub scheduling : (List ℕ → ℕ) → Event → ℕ
scheduling count (Schedule other priority rule asleep) = count other
scheduling count event = 0

abbrev pub schedules_in : List ℕ → Event → ℕ
schedules_in name event = scheduling (λ other. one_if (is_name name other)) event

-- how many entries schedule the job of this name
abbrev pub schedules_of : List ℕ → List Entry → ℕ
schedules_of name [] = 0
schedules_of name (x ∷ h) = schedules_in name x.event + schedules_of name h

-- what an answer counts by the job that it gives
abbrev pub giving : (List ℕ → ℕ) → Answer → ℕ
giving count (Job other) = count other
giving count answer = 0

abbrev pub taken_in : List ℕ → Answer → ℕ
taken_in name answer = giving (λ other. one_if (is_name name other)) answer

-- how many entries give the job of this name to a pass
abbrev pub takes_of : List ℕ → List Entry → ℕ
takes_of name [] = 0
takes_of name (x ∷ h) = taken_in name x.reply.answer + takes_of name h

abbrev pub still : Option JobState → ℕ
still None = 0
still (Some state) = one_if (may_be_cancelled state)

-- 1 where the job of this name waits or sleeps, and so may still be taken
abbrev pub pending : List ℕ → Moment → ℕ
pending name s = still (state_of s.manager.jobs name)

-- how many jobs wait or sleep
abbrev pub left : Moment → ℕ
left s = length (filter (λ e. may_be_cancelled e.1.state) (entries s.manager.jobs.jobs))

-- how many jobs of the phase have this name
abbrev pub named : {C : Type 0} → List ℕ → Phase C → ℕ
named name [] = 0
named name (job ∷ jobs) = one_if (is_name name job.name) + named name jobs
