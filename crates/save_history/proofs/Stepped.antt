-- What the steps of a save are answered, and what they leave.
use Rattle.std.proofs.Common.{◌≡◌, ℕ, Bool, true, ◌&&◌, not, eq-eqb, List, [], ◌∷◌, Option, Some, None, refl, ap, ◌∙◌}
use Rattle.std.specs.Option.{option_map}
use Rattle.proj_desc.specs.FirstCause.{first_cause, when}
use Rattle.save_kind.specs.declared.answer.SaveAnswer.{SaveAnswer}
use Rattle.save_kind.specs.declared.answer.SaveAnswer.TheVariants as answer
use Rattle.save_kind.specs.declared.kind.SaveKind.{SaveKind}
use Rattle.save_kind.specs.declared.state.PartState.{PartState}
use Rattle.core_event.specs.declared.event.Event.TheVariants.{Service}
use Rattle.core_event.specs.declared.reply.Answer.{Answer}
use Rattle.core_event.specs.declared.reply.Answer.TheVariants.{Refused}
use Rattle.core_event.specs.declared.reply.Refusal.{Refusal}
use Rattle.core_event.specs.declared.reply.Refusal.TheVariants.{NotServices, ServicesOut}
use Rattle.core_event.specs.declared.reply.Reply.{Reply}
use Rattle.core_event.specs.declared.service.Outcomes.TheVariants as outcomes
use Rattle.core_event.specs.declared.service.Purpose.TheVariants as purposes
use Rattle.core_event.specs.declared.service.ServiceEvent.{ServiceEvent}
use Rattle.core_event.specs.declared.service.ServiceEvent.TheVariants.{Saving}
use Rattle.pass_table.specs.Passes.{Passes, is_quiet, serves}
use Rattle.sched_rules.specs.declared.ws_atom.WsAtom.{WsAtom}
use Rattle.service_desk.specs.declared.desk.Serving.{Serving}
use Rattle.service_desk.specs.declared.desk.Serving.TheVariants as serving
use Rattle.service_desk.specs.Desks.{is_saving, may_end}
use Rattle.service_desk.specs.Refusals.{not_serving}
use Rattle.ws_core.specs.States.{Moment}
use Rattle.ws_core.specs.Effects.{check_in, check_out, keep_states}
use Rattle.ws_core.specs.Refusals.{refusal}
use Rattle.ws_core.specs.Steps.{act, acted, step, tell, tells}
use Rattle.ws_core.proofs.Stepped.{still}
use Rattle.save_history.specs.Saves.{beginning, ending}

-- the step that tells nothing
abbrev pub untold : Moment × Answer → Moment × Reply
untold d = (d.0, record { answer = d.1; notice = None })

-- a step is what its event does, where the tree was told before
step_acts : (s : Moment) (k : ℕ) (x : ServiceEvent) (d : Moment × Answer) → act s k (Service x) ≡ d → (is_quiet d.0.manager.passes ≡ true → d.0.remembered.told ≡ d.0.resources.tree) → step s k (Service x) ≡ untold d
step_acts s k x d is quiet = ap (tell (Service x)) is ∙ still (tells (Service x) d.0) d.0 d.1 quiet

-- one cause is the first of one
one_cause : (o : Option Refusal) → first_cause (o ∷ []) ≡ o
one_cause None = refl
one_cause (Some r) = refl

-- ---- it begins

module _ (s : Moment) (k : ℕ) (kind : SaveKind) (quiet : is_quiet s.manager.passes ≡ true → s.remembered.told ≡ s.resources.tree) where
  cause : (o : Option ℕ) → s.manager.passes.services ≡ o → refusal s k (Service (beginning kind)) ≡ option_map ServicesOut o
  cause o is = one_cause (option_map ServicesOut s.manager.passes.services) ∙ ap (option_map ServicesOut) is

  -- where no pass has the services
  pub begins_done : s.manager.passes.services ≡ None → step s k (Service (beginning kind)) ≡ untold (check_out s k (purposes.Save kind))
  begins_done home = step_acts s k (beginning kind) (check_out s k (purposes.Save kind)) (ap (λ r. acted r s k (Service (beginning kind))) (cause None home)) quiet

  -- where one has them
  pub begins_refused : (holder : ℕ) → s.manager.passes.services ≡ Some holder → step s k (Service (beginning kind)) ≡ untold (s, Refused (ServicesOut holder))
  begins_refused holder out = step_acts s k (beginning kind) (s, Refused (ServicesOut holder)) (ap (λ r. acted r s k (Service (beginning kind))) (cause (Some holder) out)) quiet

-- ---- the pass that has the services goes on

own_serves : (p : Passes WsAtom) (k : ℕ) → p.services ≡ Some k → serves p k ≡ true
own_serves p k is = ap (λ o. serves (record p { services = o }) k) is ∙ eq-eqb k k refl

fits_all : (p : Passes WsAtom) (fits : Bool) (k : ℕ) → p.services ≡ Some k → fits ≡ true → not_serving p fits k ≡ None
fits_all p fits k is fit = λ i. when (not (own_serves p k is i && fit i)) (NotServices p.services)

no_cause : (p : Passes WsAtom) (fits : Bool) (k : ℕ) → p.services ≡ Some k → fits ≡ true → first_cause (not_serving p fits k ∷ []) ≡ None
no_cause p fits k is fit = one_cause (not_serving p fits k) ∙ fits_all p fits k is fit

module _ (s : Moment) (k : ℕ) (quiet : is_quiet s.manager.passes ≡ true → s.remembered.told ≡ s.resources.tree) (out : s.manager.passes.services ≡ Some k) where
  -- in a save states are kept
  pub keeps_done : (states : List (List ℕ × PartState)) → is_saving s.desk.serving ≡ true → step s k (Service (Saving states)) ≡ untold (keep_states s states)
  keeps_done states saving = step_acts s k (Saving states) (keep_states s states)
      (ap (λ r. acted r s k (Service (Saving states))) (no_cause s.manager.passes (is_saving s.desk.serving) k out saving)) quiet

  -- and it ends, as it may
  pub ends_done : (o : SaveAnswer) → may_end s.desk.serving (outcomes.Save o) ≡ true → step s k (Service (ending o)) ≡ untold (check_in s (outcomes.Save o))
  ends_done o may = step_acts s k (ending o) (check_in s (outcomes.Save o))
      (ap (λ r. acted r s k (Service (ending o))) (no_cause s.manager.passes (may_end s.desk.serving (outcomes.Save o)) k out may)) (ended_quiet o)
    where
      ended_quiet : (o : SaveAnswer) → is_quiet (check_in s (outcomes.Save o)).0.manager.passes ≡ true → (check_in s (outcomes.Save o)).0.remembered.told ≡ (check_in s (outcomes.Save o)).0.resources.tree
      ended_quiet answer.Saved = quiet
      ended_quiet answer.SaveFailed = quiet
      ended_quiet (answer.ParticipantFailed name) = quiet
      ended_quiet answer.SaveTooLarge = quiet
      ended_quiet answer.SaveNumbers = quiet
      ended_quiet answer.NoMemory = quiet

-- a save may end so: as saved where states were kept
pub save_may_end : (o : Option Serving) (kept : Bool) (a : SaveAnswer) → o ≡ Some (serving.Save kept) → (a ≡ answer.Saved → kept ≡ true) → may_end o (outcomes.Save a) ≡ true
save_may_end o kept a is saved = ap (λ x. may_end x (outcomes.Save a)) is ∙ by a saved
  where
    by : (a : SaveAnswer) → (a ≡ answer.Saved → kept ≡ true) → may_end (Some (serving.Save kept)) (outcomes.Save a) ≡ true
    by answer.Saved saved = saved refl
    by answer.SaveFailed saved = refl
    by (answer.ParticipantFailed name) saved = refl
    by answer.SaveTooLarge saved = refl
    by answer.SaveNumbers saved = refl
    by answer.NoMemory saved = refl

pub is_under_way : (o : Option Serving) (kept : Bool) → o ≡ Some (serving.Save kept) → is_saving o ≡ true
is_under_way o kept is = ap is_saving is
