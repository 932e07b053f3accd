-- An attempt changes nothing.
use Rattle.std.proofs.Common.{◌≡◌, ℕ, Bool, true, false, ◌||◌, refl, sym, ap, ◌∙◌, subst}
use Rattle.std.specs.Prelude.{Option, Some, List}
use Rattle.std.specs.Prelude.{None as nothing}
use Rattle.op_kind.specs.declared.op.Op.{Op}
use Rattle.op_kind.specs.declared.answer.OpAnswer.{OpAnswer}
use Rattle.op_kind.specs.declared.answer.OpAnswer.TheVariants as op_answers
use Rattle.op_kind.specs.Effects as ops
use Rattle.pass_table.specs.Passes.{is_quiet}
use Rattle.core_event.specs.declared.event.Event.{Event}
use Rattle.core_event.specs.declared.event.Event.TheVariants.{Enter, Leave, Schedule, Sleep, Wake, Cancel, Take, Finish, Begin, TryBegin, End, Transfer, Batch, EndBatch, Checkpoint, Operation, Service}
use Rattle.core_event.specs.declared.reply.Answer.{Answer}
use Rattle.core_event.specs.declared.reply.Refusal.{Refusal}
use Rattle.core_event.specs.declared.reply.Reply.{Reply}
use Rattle.core_event.specs.declared.service.Purpose.TheVariants.{Build, Save}
use Rattle.core_event.specs.declared.service.ServiceEvent.{ServiceEvent}
use Rattle.core_event.specs.declared.service.ServiceEvent.TheVariants.{Checkout, CheckIn, Handed, Commit, Clean, Saving}
use Rattle.core_event.specs.Events.{is_checkpoint, operation_of, service_of}
use Rattle.core_event.specs.Replies.{answered, is_attempt}
use Rattle.job_manager.specs.declared.manager.JobManager.{JobManager}
use Rattle.job_manager.specs.Effects as managing
use Rattle.ws_core.specs.States.{Moment}
use Rattle.build_due.specs.declared.site.Site.{Site}
use Rattle.service_desk.specs.Sites.{site_in}
use Rattle.ws_core.specs.Refusals.{current, refusal}
use Rattle.ws_core.specs.Effects.{clean_for, commit_for, effect_by, hand, other_effect, serve}
use Rattle.ws_core.specs.Steps.{acted, act, told, tells, step}
use Rattle.ws_core.specs.Sessions.{IsConsistent}
use Rattle.ws_core.proofs.Stepped.{still}

told_answer : (b : Bool) (s : Moment) (a : Answer) → (told b s a).1.answer ≡ a
told_answer true s a = refl
told_answer false s a = refl

op_answer : (e : Event) (a : OpAnswer) → is_attempt e (answered a) ≡ true → ⊥
op_answer e op_answers.Done h = cc
op_answer e (op_answers.Id id) h = cc
op_answer e (op_answers.Count count) h = cc
op_answer e (op_answers.Seen entries partners) h = cc

taken : (m : JobManager) (k : ℕ) (o : Option (List ℕ)) → is_attempt Take (managing.taken m k o).1 ≡ true → (managing.taken m k o).0 ≡ m
taken m k nothing h = refl
taken m k (Some name) h = cc

-- what is done is no attempt, but for a Take that finds no job
managed_same : (m : JobManager) (k : ℕ) (e : Event) → is_attempt e (managing.effect m k e).1 ≡ true → (managing.effect m k e).0 ≡ m
managed_same m k Enter h = cc
managed_same m k Leave h = cc
managed_same m k (Schedule name priority rule asleep) h = cc
managed_same m k (Sleep name) h = cc
managed_same m k (Wake name) h = cc
managed_same m k (Cancel name) h = cc
managed_same m k Take h = taken m k (managing.next_job m) h
managed_same m k Finish h = cc
managed_same m k (Begin rule) h = cc
managed_same m k (TryBegin rule) h = cc
managed_same m k (End rule) h = cc
managed_same m k (Transfer to) h = cc
managed_same m k Batch h = cc
managed_same m k EndBatch h = cc
managed_same m k Checkpoint h = cc
managed_same m k (Operation op) h = cc
managed_same m k (Service x) h = cc

-- nor is what is served
serve_done : (s : Moment) (k : ℕ) (e : Event) (x : ServiceEvent) → is_attempt e (serve s k x).1 ≡ true → ⊥
serve_done s k e (Checkout (Build kind scope)) h = cc
serve_done s k e (Checkout (Save kind)) h = cc
serve_done s k e (Saving states) h = cc
serve_done s k e (CheckIn outcome) h = cc
serve_done s k e (Handed project index kind) h = by (site_in s.resources.tree project index) h
  where
    by : (o : Option Site) → is_attempt e (hand s o kind).1 ≡ true → ⊥
    by nothing g = cc
    by (Some site) g = cc
serve_done s k e (Commit edits) h = by (current s) h
  where
    by : (o : Option Site) → is_attempt e (commit_for s o edits).1 ≡ true → ⊥
    by nothing g = cc
    by (Some site) g = cc
serve_done s k e (Clean project index) h = by (site_in s.resources.tree project index) h
  where
    by : (o : Option Site) → is_attempt e (clean_for s o).1 ≡ true → ⊥
    by nothing g = cc
    by (Some site) g = cc

act_same : (s : Moment) (k : ℕ) (e : Event) → is_attempt e (act s k e).1 ≡ true → (act s k e).0 ≡ s
act_same s k e h = by (refusal s k e) (operation_of e) (service_of e) refl refl h
  where
    by : (r : Option Refusal) (o : Option Op) (v : Option ServiceEvent) → operation_of e ≡ o → service_of e ≡ v → is_attempt e (acted r s k e).1 ≡ true → (acted r s k e).0 ≡ s
    by (Some r) o v is plain g = refl
    by nothing (Some op) v is plain g = absurd (op_answer e (ops.effect s.resources op).1 (sym (ap (λ x. is_attempt e (effect_by x s k e).1) is) ∙ g))
    by nothing nothing (Some x) is plain g =
        absurd (serve_done s k e x (sym (ap (λ y. is_attempt e (effect_by y s k e).1) is ∙ ap (λ y. is_attempt e (other_effect y s k e).1) plain) ∙ g))
    by nothing nothing nothing is plain g =
        let path = ap (λ y. effect_by y s k e) is ∙ ap (λ y. other_effect y s k e) plain in
        let same = managed_same s.manager k e (sym (ap (λ (d : Moment × Answer). is_attempt e d.1) path) ∙ g) in
        ap (λ (d : Moment × Answer). d.0) path ∙ ap (λ m. record s { manager = m }) same

-- the state after an attempt is the one before it
pub attempt_same : (s : Moment) (k : ℕ) (e : Event) → IsConsistent s → is_attempt e (step s k e).1.answer ≡ true → (step s k e).0 ≡ s
attempt_same s k e x h =
    let answer : is_attempt e (act s k e).1 ≡ true = sym (ap (is_attempt e) (told_answer (tells e (act s k e).0) (act s k e).0 (act s k e).1)) ∙ h in
    let same = act_same s k e answer in
    ap (λ (d : Moment × Reply). d.0) (still (tells e (act s k e).0) (act s k e).0 (act s k e).1 (place same answer)) ∙ same
  where
    not_checked : is_attempt e (act s k e).1 ≡ true → is_checkpoint e ≡ false
    not_checked g = by e g
      where
        by : (e : Event) → is_attempt e (act s k e).1 ≡ true → is_checkpoint e ≡ false
        by Enter g = refl
        by Leave g = refl
        by (Schedule name priority rule asleep) g = refl
        by (Sleep name) g = refl
        by (Wake name) g = refl
        by (Cancel name) g = refl
        by Take g = refl
        by Finish g = refl
        by (Begin rule) g = refl
        by (TryBegin rule) g = refl
        by (End rule) g = refl
        by (Transfer to) g = refl
        by Batch g = refl
        by EndBatch g = refl
        by Checkpoint g = cc
        by (Operation op) g = refl
        by (Service x) g = refl

    place : (act s k e).0 ≡ s → is_attempt e (act s k e).1 ≡ true → tells e (act s k e).0 ≡ true → (act s k e).0.remembered.told ≡ (act s k e).0.resources.tree
    place same g t =
        let quiet : is_quiet s.manager.passes ≡ true =
        sym (ap (λ (z : Moment). is_quiet z.manager.passes) same) ∙ later (is_checkpoint e) (is_quiet (act s k e).0.manager.passes) (not_checked g) t in
        subst (λ (z : Moment). z.remembered.told ≡ z.resources.tree) (sym same) (x.quiet quiet)
      where
        later : (c q : Bool) → c ≡ false → (c || q) ≡ true → q ≡ true
        later true q a b = cc
        later false q a b = b
