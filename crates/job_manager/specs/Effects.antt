-- What an event of passes, jobs, rules or batches does.
use Rattle.std.specs.Prelude.{ℕ, List, [], Option, Some}
use Rattle.std.specs.Prelude.{None as nothing}
use Rattle.std.specs.FinMap.{get}
use Rattle.sched_rules.specs.Atoms.{atom_conflicts}
use Rattle.sched_rules.specs.declared.ws_atom.WsAtom.{WsAtom}
use Rattle.job_queue.specs.Queues as queue
use Rattle.job_queue.specs.Queues.{Queue}
use Rattle.job_queue.specs.declared.job.Job.{Job}
use Rattle.job_queue.specs.declared.state.JobState.TheVariants as states
use Rattle.pass_table.specs.Passes.{Passes, job_of}
use Rattle.pass_table.specs.Rows as rows
use Rattle.core_event.specs.declared.event.Event.{Event}
use Rattle.core_event.specs.declared.event.Event.TheVariants.{Enter, Leave, Schedule, Sleep, Wake, Cancel, Take, Finish, Begin, TryBegin, End, Transfer, Batch, EndBatch, Checkpoint, Operation, Service}
use Rattle.core_event.specs.declared.reply.Answer.{Answer}
use Rattle.core_event.specs.declared.reply.Answer.TheVariants.{Done, Id, None, Job as Taken, Refused}
use Rattle.core_event.specs.declared.reply.Refusal.{Refusal}
use Rattle.job_manager.specs.declared.manager.JobManager.{JobManager}
use Rattle.job_manager.specs.Refusals.{refusal}

abbrev pub rule_in : Option (Job WsAtom) → List WsAtom
rule_in nothing = []
rule_in (Some job) = job.rule

-- the rule of the job of this name
abbrev pub rule_of : Queue WsAtom → List ℕ → List WsAtom
rule_of jobs name = rule_in (get jobs.jobs name)

-- the name of the job that comes next, if there is one
abbrev pub next_job : JobManager → Option (List ℕ)
next_job m = queue.next_name atom_conflicts m.passes.rules m.jobs

-- the pass runs the job of this name, if there is one, and has its rule
abbrev pub taken : JobManager → ℕ → Option (List ℕ) → JobManager × Answer
taken m pass nothing = (m, None)
taken m pass (Some name) = (record m { jobs = queue.moved m.jobs name states.Running; passes = rows.running m.passes pass name (rule_of m.jobs name) }, Taken name)

-- the job of this name was finished, if there is one
abbrev pub job_done : Queue WsAtom → Option (List ℕ) → Queue WsAtom
job_done jobs nothing = jobs
job_done jobs (Some name) = queue.finished jobs name

abbrev pub with_jobs : JobManager → Queue WsAtom → JobManager × Answer
with_jobs m jobs = (record m { jobs = jobs }, Done)

abbrev pub with_passes : JobManager → Passes WsAtom → JobManager × Answer
with_passes m passes = (record m { passes = passes }, Done)

-- what an event does that isn't refused, and its answer; an operation is none of these events, nor is what concerns services
abbrev pub effect : JobManager → ℕ → Event → JobManager × Answer
effect m pass Enter = (record m { passes = rows.entered m.passes }, Id m.passes.next)
effect m pass Leave = with_passes m (rows.left m.passes pass)
effect m pass (Schedule name priority rule asleep) = with_jobs m (queue.scheduled m.jobs name priority rule asleep)
effect m pass (Sleep name) = with_jobs m (queue.moved m.jobs name states.Sleeping)
effect m pass (Wake name) = with_jobs m (queue.moved m.jobs name states.Waiting)
effect m pass (Cancel name) = with_jobs m (queue.cancelled m.jobs name)
effect m pass Take = taken m pass (next_job m)
effect m pass Finish = (record m { jobs = job_done m.jobs (job_of m.passes pass); passes = rows.finished m.passes pass }, Done)
effect m pass (Begin rule) = with_passes m (rows.begun m.passes pass rule)
effect m pass (TryBegin rule) = with_passes m (rows.begun m.passes pass rule)
effect m pass (End rule) = with_passes m (rows.ended m.passes pass)
effect m pass (Transfer to) = with_passes m (rows.transferred m.passes pass to)
effect m pass Batch = with_passes m (rows.in_batch m.passes pass)
effect m pass EndBatch = with_passes m (rows.out_of_batch m.passes pass)
effect m pass Checkpoint = (m, Done)
effect m pass (Operation op) = (m, Done)
effect m pass (Service x) = (m, Done)

-- a refused event changes nothing
abbrev pub decided : Option Refusal → JobManager → ℕ → Event → JobManager × Answer
decided nothing m pass event = effect m pass event
decided (Some r) m pass event = (m, Refused r)

-- what comes of an event, refused or done
abbrev pub outcome : JobManager → ℕ → Event → JobManager × Answer
outcome m pass event = decided (refusal m pass event) m pass event
