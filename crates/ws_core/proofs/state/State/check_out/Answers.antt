use Rattle.std.proofs.Common.{subst}
use Rattle.proj_desc.specs.FirstCause.{first_cause}
use Rattle.core_event.specs.declared.service.ServiceEvent.TheVariants.{Checkout}
use Rattle.service_desk.specs.Judging.{Judges}
use Rattle.ws_core.specs.States.{Moment}
use Rattle.ws_core.specs.Refusals.{service_causes}
use Rattle.ws_core.proofs.Served.{refused_for}
use Rattle.ws_core.proofs.state.State.check_out.Goals as goal

pub returns-in-Err-clause-ok : goal.returns-in-Err-clause-ok
returns-in-Err-clause-ok g c =
    let s : Moment = c.args.self.now in
    let k = c.args.pass in
    let x = Checkout c.args.purpose.now in
    let cause = first_cause (service_causes s k x) in
    refused_for c.args.wants_copy s k x c.in-Err.error c.refuse_for.result cause (λ r h. h) (subst (Judges cause) c.in-Err.is c.checkout_allowed.ensures) c.refuse_for.ensures c.requires
