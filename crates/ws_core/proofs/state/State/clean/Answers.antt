use Rattle.std.proofs.Common.{sym, ap, ◌∙◌, subst}
use Rattle.std.specs.Prelude.{Option}
use Rattle.proj_desc.specs.FirstCause.{first_cause}
use Rattle.ws_elem.specs.Trees.{Tree}
use Rattle.core_event.specs.declared.reply.Refusal.{Refusal}
use Rattle.core_event.specs.declared.service.ServiceEvent.TheVariants.{Clean}
use Rattle.service_desk.specs.Judging.{Judges}
use Rattle.service_desk.specs.Refusals.{site_causes}
use Rattle.ws_core.specs.States.{Moment}
use Rattle.ws_core.specs.Refusals.{service_causes}
use Rattle.ws_core.proofs.Served.{refused_for}
use Rattle.ws_core.proofs.state.State.clean.Goals as goal

pub returns-in-Err-clause-ok : goal.returns-in-Err-clause-ok
returns-in-Err-clause-ok g c =
    let i = c.self.inside in
    let s : Moment = c.args.self.now in
    let k = c.args.pass in
    let w = c.args.wants_copy in
    let x = Clean c.args.project.now c.args.index in
    let causes : Tree → Option Refusal = λ t. first_cause (site_causes i.manager.passes t i.desk k c.args.project.now c.args.index) in
    refused_for w s k x c.in-Err.error c.refuse_for.result (causes i.content.resources.tree)
    (λ r h. sym (ap (λ (z : Moment). first_cause (service_causes z k x)) c.self.view_is) ∙ h)
    (subst (Judges (causes i.content.resources.tree)) c.in-Err.is (subst (λ t. Judges (causes t) c.site_for-found.result) c.tree.ensures c.site_for-found.ensures.judged)) c.refuse_for.ensures c.requires
