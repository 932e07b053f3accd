-- Why an event of passes, jobs, rules or batches is refused.
use Rattle.std.specs.Prelude.{ℕ, Bool, not, ◌==◌, List, [], ◌∷◌, Option, Some, None, is_some, is_none}
use Rattle.std.specs.Cmp.Lexicographic.{pointwise}
use Rattle.std.specs.Ordering.{eq_by_cmp}
use Rattle.sched_rules.specs.Atoms.{atom_cmp}
use Rattle.sched_rules.specs.declared.ws_atom.WsAtom.{WsAtom}
use Rattle.rule_table.specs.Tables.{last_rule, rules_held}
use Rattle.rule_table.specs.declared.held.Held.{Held}
use Rattle.proj_desc.specs.FirstCause.{when, first_cause}
use Rattle.job_queue.specs.States.{may_be_cancelled, is_sleeping, is_waiting}
use Rattle.job_queue.specs.Queues as queue
use Rattle.job_queue.specs.declared.error.JobError.{JobError}
use Rattle.job_queue.specs.declared.error.JobError.TheVariants as errors
use Rattle.job_queue.specs.declared.state.JobState.TheVariants as states
use Rattle.pass_table.specs.Passes.{Passes, has_pass, job_of, batches_of, is_busy}
use Rattle.core_event.specs.declared.event.Event.{Event}
use Rattle.core_event.specs.declared.event.Event.TheVariants.{Enter, Leave, Schedule, Sleep, Wake, Cancel, Take, Finish, Begin, TryBegin, End, Transfer, Batch, EndBatch, Checkpoint, Operation, Service}
use Rattle.core_event.specs.declared.reply.Refusal.{Refusal}
use Rattle.core_event.specs.declared.reply.Refusal.TheVariants as refusals
use Rattle.job_manager.specs.declared.manager.JobManager.{JobManager}
use Rattle.job_manager.specs.Admission.{admission}

-- a pass that has a rule, an open batch, a job or the services
abbrev pub busy : Passes WsAtom → ℕ → Option Refusal
busy passes pass = when (is_busy passes pass) refusals.PassBusy

-- two rules have the same atoms
abbrev pub same_rule : List WsAtom → List WsAtom → Bool
same_rule = pointwise (eq_by_cmp atom_cmp)

-- why a rule isn't ended: the pass has none, or it has so many and began another one last
abbrev pub end_refusal : Option (List WsAtom) → ℕ → List WsAtom → Option Refusal
end_refusal None held rule = Some refusals.HoldsNothing
end_refusal (Some last) held rule = when (not (same_rule last rule)) (refusals.NotLast held)

-- why rules aren't handed over: there is no such pass, or the one has no rule, or the other has one
abbrev pub transfer_refusal : Passes WsAtom → ℕ → ℕ → Option Refusal
transfer_refusal passes pass to = first_cause (
    when (not (has_pass passes to)) refusals.NoPass
    ∷ when (is_none (last_rule pass passes.rules)) refusals.HoldsNothing
    ∷ when (is_some (last_rule to passes.rules)) refusals.TargetHolds
    ∷ [])

-- why a job isn't where the event wants it; that memory wants is no refusal
abbrev pub by_job : Option JobError → Option Refusal
by_job None = None
by_job (Some errors.UnknownJob) = Some refusals.UnknownJob
by_job (Some (errors.WrongState state)) = Some (refusals.WrongState state)
by_job (Some errors.NumbersUsed) = Some refusals.NumbersUsed
by_job (Some errors.Memory) = None

-- why an event of a pass is refused, if it is; an operation is none of these events, nor is what concerns services
abbrev pub refusal : JobManager → ℕ → Event → Option Refusal
refusal m pass Enter = None
refusal m pass Leave = busy m.passes pass
refusal m pass (Schedule name priority rule asleep) = by_job (queue.schedule_refusal m.jobs.next_number (queue.state_of m.jobs name))
refusal m pass (Sleep name) = by_job (queue.refusal is_waiting (queue.state_of m.jobs name))
refusal m pass (Wake name) = by_job (queue.refusal is_sleeping (queue.state_of m.jobs name))
refusal m pass (Cancel name) = by_job (queue.refusal may_be_cancelled (queue.state_of m.jobs name))
refusal m pass Take = busy m.passes pass
refusal m pass Finish = when (is_none (job_of m.passes pass)) (refusals.WrongState states.None)
refusal m pass (Begin rule) = admission m.passes.rules pass rule
refusal m pass (TryBegin rule) = admission m.passes.rules pass rule
refusal m pass (End rule) = end_refusal (last_rule pass m.passes.rules) (rules_held pass m.passes.rules) rule
refusal m pass (Transfer to) = transfer_refusal m.passes pass to
refusal m pass Batch = None
refusal m pass EndBatch = when (batches_of m.passes pass == 0) refusals.NoBatch
refusal m pass Checkpoint = None
refusal m pass (Operation op) = None
refusal m pass (Service x) = None
