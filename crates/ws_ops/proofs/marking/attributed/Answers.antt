use Rattle.std.proofs.Common.{◌≡◌, ap, ◌∙◌}
use Rattle.std.specs.Prelude.{Err}
use Rattle.mark_set.specs.Causes.{change_cause}
use Rattle.op_plan.proofs.BadValues.{unspoilt, spoilt}
use Rattle.ws_ops.proofs.marking.attributed.Goals as goal

pub returns-in-Ok-clause-judged : goal.returns-in-Ok-clause-judged
returns-in-Ok-clause-judged c =
    let told = change_cause c.text.result.now c.in_ok-value.value in
    let cause = change_cause c.args.name.now c.args.value.now in
    let same : told ≡ cause = λ i. change_cause (c.text.ensures.value i) (c.in_ok-value.ensures i) in
    unspoilt told cause c.set.result c.in-Ok.field-0 same c.in-Ok.is
    (λ x h. (c.set.ensures.bad x).1 (c.requires, h))

pub returns-in-Err-BadValue-clause-judged : goal.returns-in-Err-BadValue-clause-judged
returns-in-Err-BadValue-clause-judged c =
    let told = change_cause c.text.result.now c.in_ok-value.value in
    let cause = change_cause c.args.name.now c.args.value.now in
    let same : told ≡ cause = λ i. change_cause (c.text.ensures.value i) (c.in_ok-value.ensures i) in
    spoilt told cause c.in-Err-BadValue.cause same ((c.set.ensures.bad c.in-Err-BadValue.cause).0 (c.in-Err-BadValue.is ∙ ap Err c.in-Err-BadValue.field-0-is)).1
