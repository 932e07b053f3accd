use Rattle.std.proofs.Common.{◌≡◌, [], ◌∷◌, ap, ◌∙◌, subst}
use Rattle.std.specs.Prelude.{Some, IfOk}
use Rattle.proj_desc.specs.FirstCause.{first_cause}
use Rattle.core_event.specs.declared.event.Event.TheVariants.{Service}
use Rattle.core_event.specs.declared.service.ServiceEvent.TheVariants.{Commit}
use Rattle.core_event.specs.declared.reply.Reply.{Reply}
use Rattle.core_event.specs.declared.twice.Twice.{Twice}
use Rattle.core_event.specs.Twice.{doubled}
use Rattle.service_desk.specs.Desks.{is_building}
use Rattle.service_desk.specs.Judging.{Judges}
use Rattle.service_desk.specs.Refusals.{not_serving, unrooted}
use Rattle.ws_core.specs.States.{Moment}
use Rattle.ws_core.specs.Inside.Parts.{moment}
use Rattle.ws_core.specs.Refusals.{current, no_build}
use Rattle.ws_core.specs.Steps.{step}
use Rattle.ws_core.proofs.Stepped.{called, commit_so, if_ok}
use Rattle.ws_core.proofs.Served.{none_of_three, of_three, refused_for}
use Rattle.ws_core.proofs.state.State.commit.Goals.{in-Some-4, in-None-4}
use Rattle.ws_core.proofs.state.State.commit.Goals as goal

pub returns-in-Ok-clause-ok : goal.returns-in-Ok-clause-ok
returns-in-Ok-clause-ok g c =
    let i = c.self.inside in
    let s : Moment = moment i.content i.manager i.desk in
    let k = c.args.pass in
    let w = c.args.wants_copy in
    let edits = c.args.edits.now in
    let site = c.in-Ok.site in
    let now : Moment = c.args.self.now in
    let judged = subst (Judges (first_cause (not_serving now.manager.passes (is_building now.desk.serving) k ∷ no_build (current now) ∷ unrooted now.manager.passes.rules k ∷ []))) c.in-Ok.is c.site_under_way.ensures.judged in
    let apart = none_of_three (not_serving now.manager.passes (is_building now.desk.serving) k) (no_build (current now)) (unrooted now.manager.passes.rules k) judged in
    let there = subst (λ r. IfOk r (λ site. current now ≡ Some site)) c.in-Ok.is c.site_under_way.ensures.site in
    let self_is : c.match-site-4.self ≡ moment c.commit.new.self i.manager i.desk = elim c.match-site-4.branch [ in-Some-4 y ↦ y.self-is | in-None-4 y ↦ y.self-is ] in
    if_ok {Q = λ (r : Twice Reply). ◌≡◌ {A = Moment × Twice Reply} (c.match-site-4.self, r) (doubled w (step now k (Service (Commit edits))))} c.commit.result (λ r h.
    (λ j. (self_is j, r))
    ∙ called w (λ x. moment x i.manager i.desk) c.commit.new.self r _ _ h
    (commit_so s k edits site _ (ap current c.self.view_is ∙ there) (ap (λ (z : Moment). not_serving z.manager.passes (is_building z.desk.serving) k) c.self.view_is ∙ apart.0) (ap (λ (z : Moment). unrooted z.manager.passes.rules k) c.self.view_is ∙ apart.1) c.is_quiet-tells.ensures)
    ∙ ap (λ z. doubled w (step z k (Service (Commit edits)))) c.self.view_is) c.commit.ensures.ok

pub returns-in-Err-clause-ok : goal.returns-in-Err-clause-ok
returns-in-Err-clause-ok g c =
    let s : Moment = c.args.self.now in
    let k = c.args.pass in
    let w = c.args.wants_copy in
    let cause = first_cause (not_serving s.manager.passes (is_building s.desk.serving) k ∷ no_build (current s) ∷ unrooted s.manager.passes.rules k ∷ []) in
    refused_for w s k (Commit c.args.edits.now) c.in-Err.error c.refuse_for.result cause
    (λ r h. of_three (not_serving s.manager.passes (is_building s.desk.serving) k) (no_build (current s)) (unrooted s.manager.passes.rules k) _ r h)
    (subst (Judges cause) c.in-Err.is c.site_under_way.ensures.judged) c.refuse_for.ensures c.requires
