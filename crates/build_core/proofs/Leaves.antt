-- What a step leaves for builds is what its event does, told or not.
use Rattle.std.proofs.Common.{◌≡◌, ℕ, Bool, true, false, [], ◌∷◌, refl, ap, ◌∙◌, subst}
use Rattle.std.specs.Prelude.{Some, None}
use Rattle.proj_desc.specs.FirstCause.{first_cause}
use Rattle.core_event.specs.declared.event.Event.{Event}
use Rattle.core_event.specs.declared.event.Event.TheVariants.{Service}
use Rattle.core_event.specs.declared.reply.Answer.{Answer}
use Rattle.core_event.specs.declared.reply.Answer.TheVariants.{Refused}
use Rattle.core_event.specs.declared.reply.Refusal.{Refusal}
use Rattle.core_event.specs.declared.reply.Reply.{Reply}
use Rattle.core_event.specs.declared.service.Outcomes.{Outcomes}
use Rattle.core_event.specs.declared.service.ServiceEvent.{ServiceEvent}
use Rattle.core_event.specs.declared.service.ServiceEvent.TheVariants.{CheckIn}
use Rattle.core_event.specs.Events.{operation_of, service_of}
use Rattle.job_manager.specs.Effects as managing
use Rattle.service_desk.specs.Desks.{may_end}
use Rattle.service_desk.specs.Refusals.{not_serving}
use Rattle.ws_core.specs.States.{Moment}
use Rattle.ws_core.specs.Refusals.{service_causes}
use Rattle.ws_core.specs.Effects.{check_in, managed, serve}
use Rattle.ws_core.specs.Steps.{act, acted, step, tells, told}
use Rattle.ws_core.proofs.Stepped.{act_managed, ended_built}
use Rattle.build_core.specs.States.{records_of, state_of}

-- after a step builds see what was done, and all but what is told last is as it was done
pub record Leaves (next : Moment × Reply) (done : Moment × Answer) : Type 0 where
  pub state : state_of next.0 ≡ state_of done.0
  pub answer : next.1.answer ≡ done.1
  pub resources : next.0.resources ≡ done.0.resources
  pub built : next.0.remembered.built ≡ done.0.remembered.built
  pub manager : next.0.manager ≡ done.0.manager
  pub desk : next.0.desk ≡ done.0.desk

-- what is told changes nothing that builds see
pub told_leaves : (b : Bool) (s : Moment) (a : Answer) → Leaves (told b s a) (s, a)
told_leaves true s a = record { state = refl; answer = refl; resources = refl; built = refl; manager = refl; desk = refl }
told_leaves false s a = record { state = refl; answer = refl; resources = refl; built = refl; manager = refl; desk = refl }

pub told_same : (b : Bool) (s : Moment) (a : Answer) → state_of (told b s a).0 ≡ state_of s
told_same b s a = (told_leaves b s a).state

-- a step leaves what its event does
pub step_leaves : (s : Moment) (k : ℕ) (e : Event) (d : Moment × Answer) → act s k e ≡ d → Leaves (step s k e) d
step_leaves s k e d is = subst (Leaves (step s k e)) is (told_leaves (tells e (act s k e).0) (act s k e).0 (act s k e).1)

-- ---- events of passes, jobs, rules and batches

pub managed_leaves : (s : Moment) (k : ℕ) (e : Event) → operation_of e ≡ None → service_of e ≡ None → Leaves (step s k e) (managed s (managing.outcome s.manager k e))
managed_leaves s k e none plain = step_leaves s k e (managed s (managing.outcome s.manager k e)) (act_managed s k e none plain)

-- builds see what they saw
pub managed_same : (s : Moment) (k : ℕ) (e : Event) → operation_of e ≡ None → service_of e ≡ None → state_of (step s k e).0 ≡ state_of s
managed_same s k e none plain = (managed_leaves s k e none plain).state

-- ---- events of the services

pub served : (s : Moment) (k : ℕ) (x : ServiceEvent) → first_cause (service_causes s k x) ≡ None → Leaves (step s k (Service x)) (serve s k x)
served s k x none = step_leaves s k (Service x) (serve s k x) (ap (λ r. acted r s k (Service x)) none)

-- what is refused changes nothing
pub refused : (s : Moment) (k : ℕ) (x : ServiceEvent) (r : Refusal) → first_cause (service_causes s k x) ≡ Some r → Leaves (step s k (Service x)) (s, Refused r)
refused s k x r is = step_leaves s k (Service x) (s, Refused r) (ap (λ c. acted c s k (Service x)) is)

-- the pass that has the services gives them back
pub check_in_leaves : (s : Moment) (k : ℕ) (outcome : Outcomes) → not_serving s.manager.passes (may_end s.desk.serving outcome) k ≡ None
    → Leaves (step s k (Service (CheckIn outcome))) (check_in s outcome)
check_in_leaves s k outcome serving = served s k (CheckIn outcome) (ap (λ c. first_cause (c ∷ [])) serving)

-- and builds see what they saw
pub check_in_same : (s : Moment) (k : ℕ) (outcome : Outcomes) → not_serving s.manager.passes (may_end s.desk.serving outcome) k ≡ None
    → state_of (step s k (Service (CheckIn outcome))).0 ≡ state_of s
check_in_same s k outcome serving =
    (check_in_leaves s k outcome serving).state ∙ ap (λ built. record (state_of s) { records = records_of built }) (ended_built outcome s.remembered)
