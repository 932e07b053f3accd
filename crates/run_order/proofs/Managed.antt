-- What a step leaves of the jobs and passes, and what it answers of them.
use Rattle.std.proofs.Common.{◌≡◌, ◌⊎◌, inl, inr, ℕ, Bool, true, false, List, refl, sym, ap, ◌∙◌, subst}
use Rattle.std.specs.Prelude.{Option, Some, None}
use Rattle.job_queue.proofs.Found.{same_Some}
use Rattle.op_kind.specs.declared.op.Op.{Op}
use Rattle.op_kind.specs.Effects as ops
use Rattle.core_event.specs.declared.event.Event.{Event}
use Rattle.core_event.specs.declared.event.Event.TheVariants.{Enter, Leave, Schedule, Sleep, Wake, Cancel, Take, Finish, Begin, TryBegin, End, Transfer, Batch, EndBatch, Checkpoint, Operation, Service}
use Rattle.core_event.specs.declared.reply.Answer.{Answer}
use Rattle.core_event.specs.declared.reply.Answer.TheVariants.{Refused}
use Rattle.core_event.specs.declared.reply.Refusal.{Refusal}
use Rattle.core_event.specs.Replies.{answered}
use Rattle.core_event.specs.Events.{operation_of, service_of}
use Rattle.job_manager.specs.declared.manager.JobManager.{JobManager}
use Rattle.job_manager.specs.Refusals as managers
use Rattle.job_manager.specs.Effects as managing
use Rattle.ws_core.specs.States.{Moment}
use Rattle.ws_core.specs.Refusals.{refusal}
use Rattle.ws_core.specs.Steps.{acted, act, told, tells, step}
use Rattle.ws_core.proofs.Roomy.{service_manager, serving, step_manager}
use Rattle.ws_core.proofs.Stepped.{Concern, OfOperation, OfService, OfManager, concern_of, act_managed}

pub only_operation : (e : Event) (op : Op) → operation_of e ≡ Some op → e ≡ Operation op
only_operation (Operation op) other is = ap Operation (same_Some op other is)
only_operation Enter op is = cc
only_operation Leave op is = cc
only_operation (Schedule n p r a) op is = cc
only_operation (Sleep n) op is = cc
only_operation (Wake n) op is = cc
only_operation (Cancel n) op is = cc
only_operation Take op is = cc
only_operation Finish op is = cc
only_operation (Begin r) op is = cc
only_operation (TryBegin r) op is = cc
only_operation (End r) op is = cc
only_operation (Transfer to) op is = cc
only_operation Batch op is = cc
only_operation EndBatch op is = cc
only_operation Checkpoint op is = cc
only_operation (Service x) op is = cc

-- what a step leaves of the jobs and passes, but for who has the services
pub step_serving : (s : Moment) (k : ℕ) (e : Event) → (services : Option ℕ) × ((step s k e).0.manager ≡ serving (managing.outcome s.manager k e).0 services)
step_serving s k e = by (concern_of e)
  where
    Is : Event → Type 0
    Is x = (services : Option ℕ) × ((step s k x).0.manager ≡ serving (managing.outcome s.manager k x).0 services)

    plainly : service_of e ≡ None → Is e
    plainly plain = ((managing.outcome s.manager k e).0.passes.services, step_manager s k e plain)

    by : Concern e → Is e
    by (OfOperation op is) = plainly (ap service_of is)
    by (OfService x is) = subst Is (sym is) (service_manager s k x)
    by (OfManager none plain) = plainly plain

pub told_answer : (b : Bool) (s : Moment) (a : Answer) → (told b s a).1.answer ≡ a
told_answer true s a = refl
told_answer false s a = refl

pub step_answer : (s : Moment) (k : ℕ) (e : Event) → operation_of e ≡ None → service_of e ≡ None → (step s k e).1.answer ≡ (managing.outcome s.manager k e).1
step_answer s k e none plain = told_answer (tells e (act s k e).0) (act s k e).0 (act s k e).1 ∙ ap (λ (d : Moment × Answer). d.1) (act_managed s k e none plain)

-- only what concerns the services changes who has them
effect_services : (m : JobManager) (k : ℕ) (e : Event) → (managing.effect m k e).0.passes.services ≡ m.passes.services
effect_services m k Enter = refl
effect_services m k Leave = refl
effect_services m k (Schedule name priority rule asleep) = refl
effect_services m k (Sleep name) = refl
effect_services m k (Wake name) = refl
effect_services m k (Cancel name) = refl
effect_services m k Take = by (managing.next_job m)
  where
    by : (o : Option (List ℕ)) → (managing.taken m k o).0.passes.services ≡ m.passes.services
    by None = refl
    by (Some name) = refl
effect_services m k Finish = refl
effect_services m k (Begin rule) = refl
effect_services m k (TryBegin rule) = refl
effect_services m k (End rule) = refl
effect_services m k (Transfer to) = refl
effect_services m k Batch = refl
effect_services m k EndBatch = refl
effect_services m k Checkpoint = refl
effect_services m k (Operation op) = refl
effect_services m k (Service x) = refl

pub step_services : (s : Moment) (k : ℕ) (e : Event) → service_of e ≡ None → (step s k e).0.manager.passes.services ≡ s.manager.passes.services
step_services s k e plain = ap (λ (m : JobManager). m.passes.services) (step_manager s k e plain) ∙ by (managers.refusal s.manager k e)
  where
    by : (r : Option Refusal) → (managing.decided r s.manager k e).0.passes.services ≡ s.manager.passes.services
    by None = effect_services s.manager k e
    by (Some r) = refl

-- an operation is refused, or answered as operations are
pub operation_answer : (s : Moment) (k : ℕ) (op : Op) → ((r : Refusal) × (refusal s k (Operation op) ≡ Some r) × ((step s k (Operation op)).1.answer ≡ Refused r)) ⊎ ((step s k (Operation op)).1.answer ≡ answered (ops.effect s.resources op).1)
operation_answer s k op = by (refusal s k (Operation op)) refl
  where
    told_so : (step s k (Operation op)).1.answer ≡ (act s k (Operation op)).1
    told_so = told_answer (tells (Operation op) (act s k (Operation op)).0) (act s k (Operation op)).0 (act s k (Operation op)).1

    by : (r : Option Refusal) → refusal s k (Operation op) ≡ r → ((r : Refusal) × (refusal s k (Operation op) ≡ Some r) × ((step s k (Operation op)).1.answer ≡ Refused r)) ⊎ ((step s k (Operation op)).1.answer ≡ answered (ops.effect s.resources op).1)
    by None is = inr (told_so ∙ ap (λ r. (acted r s k (Operation op)).1) is)
    by (Some r) is = inl (r, is, told_so ∙ ap (λ r. (acted r s k (Operation op)).1) is)
