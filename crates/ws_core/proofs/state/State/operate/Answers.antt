use Rattle.std.proofs.Common.{◌≡◌, sym, ap, ◌∙◌}
use Rattle.ws_core.specs.States.{Moment}
use Rattle.std.specs.Prelude.{Some}
use Rattle.std.specs.Option.{option_map, option_or}
use Rattle.op_kind.specs.Refusals as ops
use Rattle.op_rule.specs.Rules.{operation_rule}
use Rattle.core_event.specs.declared.event.Event.TheVariants.{Operation}
use Rattle.core_event.specs.declared.reply.Refusal.TheVariants as refusals
use Rattle.job_manager.specs.Admission.{admission}
use Rattle.ws_core.specs.Refusals.{refusal}
use Rattle.ws_core.proofs.Stepped.{refused_called}
use Rattle.ws_core.proofs.state.State.operate.Goals as goal

pub returns-in-Some-clause-ok : goal.returns-in-Some-clause-ok
returns-in-Some-clause-ok g c =
    let s = c.args.self.now in
    let k = c.args.pass in
    let op = c.args.op.now in
    let w = c.args.wants_copy in
    let admitted : admission s.manager.passes.rules k (operation_rule op) ≡ Some c.in-Some.refusal =
    sym (ap (λ (z : Moment). admission z.manager.passes.rules k (operation_rule op)) c.self.view_is) ∙ sym c.in_ok-refusal.ensures ∙ c.in-Some.is in
    let is : refusal s k (Operation op) ≡ Some c.in-Some.refusal =
    ap (λ a. option_or a (option_map refusals.Operation (ops.refusal s.resources op))) admitted in
    refused_called w s k (Operation op) c.in-Some.refusal c.refuse.result is c.requires.quiet c.refuse.ensures
