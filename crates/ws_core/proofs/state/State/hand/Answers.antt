use Rattle.std.proofs.Common.{◌≡◌, true, sym, ap, ◌∙◌, subst}
use Rattle.std.specs.Prelude.{Option, Some, None, IfOk}
use Rattle.proj_desc.specs.FirstCause.{first_cause}
use Rattle.ws_elem.specs.Trees.{Tree}
use Rattle.pass_table.specs.Passes.{is_quiet}
use Rattle.core_event.specs.declared.reply.Refusal.{Refusal}
use Rattle.core_event.specs.declared.service.ServiceEvent.TheVariants.{Handed}
use Rattle.service_desk.specs.Judging.{Judges}
use Rattle.service_desk.specs.Refusals.{site_causes}
use Rattle.ws_core.specs.States.{Moment}
use Rattle.ws_core.specs.Inside.Parts.{moment}
use Rattle.ws_core.specs.Refusals.{service_causes}
use Rattle.service_desk.specs.Sites.{site_in}
use Rattle.ws_core.proofs.Stepped.{handed_called}
use Rattle.ws_core.proofs.Served.{refused_for}
use Rattle.ws_core.proofs.state.State.hand.Goals as goal

pub returns-in-Ok-clause-ok : goal.returns-in-Ok-clause-ok
returns-in-Ok-clause-ok g c =
    let i = c.self.inside in
    let s : Moment = moment i.content i.manager i.desk in
    let k = c.args.pass in
    let w = c.args.wants_copy in
    let told : is_quiet s.manager.passes ≡ true → s.remembered.told ≡ s.resources.tree = subst (λ (z : Moment). is_quiet z.manager.passes ≡ true → z.remembered.told ≡ z.resources.tree) (sym c.self.view_is) c.requires in
    let project = c.args.project.now in
    let index = c.args.index in
    let kind = c.args.kind in
    let causes : Tree → Option Refusal = λ t. first_cause (site_causes i.manager.passes t i.desk k project index) in
    let none : causes s.resources.tree ≡ None = subst (Judges (causes s.resources.tree)) c.in-Ok.is (subst (λ t. Judges (causes t) c.site_for-found.result) c.tree.ensures c.site_for-found.ensures.judged) in
    let there = subst (λ r. IfOk r (λ site. site_in s.resources.tree project index ≡ Some site)) c.in-Ok.is (subst (λ t. IfOk c.site_for-found.result (λ site. site_in t project index ≡ Some site)) c.tree.ensures c.site_for-found.ensures.site) in
    let x = Handed project index kind in
    let now : Moment = c.args.self.now in
    let site = c.in-Ok.site in
    let free = sym (ap (λ (z : Moment). first_cause (service_causes z k x)) c.self.view_is) ∙ none in
    let at : site_in now.resources.tree project index ≡ Some site = sym (ap (λ (z : Moment). site_in z.resources.tree project index) c.self.view_is) ∙ there in
    handed_called w now k project index kind site c.hand_to.new.self c.hand_to.result at free c.requires c.hand_to.ensures.ok

pub returns-in-Err-clause-ok : goal.returns-in-Err-clause-ok
returns-in-Err-clause-ok g c =
    let i = c.self.inside in
    let s : Moment = c.args.self.now in
    let k = c.args.pass in
    let w = c.args.wants_copy in
    let x = Handed c.args.project.now c.args.index c.args.kind in
    let causes : Tree → Option Refusal = λ t. first_cause (site_causes i.manager.passes t i.desk k c.args.project.now c.args.index) in
    refused_for w s k x c.in-Err.error c.refuse_for.result (causes i.content.resources.tree)
    (λ r h. sym (ap (λ (z : Moment). first_cause (service_causes z k x)) c.self.view_is) ∙ h)
    (subst (Judges (causes i.content.resources.tree)) c.in-Err.is (subst (λ t. Judges (causes t) c.site_for-found.result) c.tree.ensures c.site_for-found.ensures.judged)) c.refuse_for.ensures c.requires
