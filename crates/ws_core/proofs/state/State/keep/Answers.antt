use Rattle.std.proofs.Common.{◌≡◌, [], ◌∷◌, sym, ap, ◌∙◌, subst}
use Rattle.std.specs.Prelude.{None}
use Rattle.proj_desc.specs.FirstCause.{first_cause}
use Rattle.core_event.specs.declared.service.ServiceEvent.TheVariants.{Saving}
use Rattle.service_desk.specs.Desks.{is_saving}
use Rattle.service_desk.specs.Judging.{Judges}
use Rattle.service_desk.specs.Refusals.{not_serving}
use Rattle.ws_core.specs.States.{Moment}
use Rattle.ws_core.proofs.Stepped.{keeping_called}
use Rattle.ws_core.proofs.Served.{refused_for}
use Rattle.ws_core.proofs.state.State.keep.Goals as goal

pub returns-in-Ok-clause-ok : goal.returns-in-Ok-clause-ok
returns-in-Ok-clause-ok g c =
    let i = c.self.inside in
    let now : Moment = c.args.self.now in
    let k = c.args.pass in
    let states = c.args.states.now in
    let allowed : not_serving i.manager.passes c.is_saving.result k ≡ None = subst (Judges (not_serving i.manager.passes c.is_saving.result k)) c.in-Ok.is c.check_serving.ensures in
    let free : not_serving now.manager.passes (is_saving now.desk.serving) k ≡ None =
    sym (ap (λ (z : Moment). not_serving z.manager.passes (is_saving z.desk.serving) k) c.self.view_is) ∙ ap (λ b. not_serving i.manager.passes b k) (sym c.is_saving.ensures) ∙ allowed in
    keeping_called c.args.wants_copy now k states c.keep_allowed.new.self c.keep_allowed.result free c.requires c.keep_allowed.ensures.ok

pub returns-in-Err-clause-ok : goal.returns-in-Err-clause-ok
returns-in-Err-clause-ok g c =
    let i = c.self.inside in
    let now : Moment = c.args.self.now in
    let k = c.args.pass in
    let x = Saving c.args.states.now in
    let cause = not_serving i.manager.passes c.is_saving.result k in
    let same : cause ≡ not_serving now.manager.passes (is_saving now.desk.serving) k =
    ap (λ b. not_serving i.manager.passes b k) c.is_saving.ensures ∙ ap (λ (z : Moment). not_serving z.manager.passes (is_saving z.desk.serving) k) c.self.view_is in
    refused_for c.args.wants_copy now k x c.in-Err.error c.refuse_for.result cause (λ r h. ap (λ o. first_cause (o ∷ [])) (sym same ∙ h))
    (subst (Judges cause) c.in-Err.is c.check_serving.ensures) c.refuse_for.ensures c.requires
