use Rattle.std.proofs.Common.{◌≡◌, ap, ◌∙◌}
use Rattle.std.specs.Prelude.{Err}
use Rattle.mark_set.specs.Causes.{marker_cause}
use Rattle.op_plan.proofs.BadValues.{unspoilt, spoilt}
use Rattle.ws_ops.proofs.marking.marked.Goals as goal

pub returns-in-Ok-clause-judged : goal.returns-in-Ok-clause-judged
returns-in-Ok-clause-judged c =
    let told = marker_cause c.text.result.now c.as_slice.result.now in
    let cause = marker_cause c.args.mark_type.now c.args.attrs.now in
    let same : told ≡ cause = λ i. marker_cause (c.text.ensures.value i) (c.as_slice.ensures i) in
    unspoilt told cause c.create.result c.in-Ok.field-0 same c.in-Ok.is (λ x h. (c.create.ensures.bad x).1 h)

pub returns-in-Err-BadValue-clause-judged : goal.returns-in-Err-BadValue-clause-judged
returns-in-Err-BadValue-clause-judged c =
    let told = marker_cause c.text.result.now c.as_slice.result.now in
    let cause = marker_cause c.args.mark_type.now c.args.attrs.now in
    let same : told ≡ cause = λ i. marker_cause (c.text.ensures.value i) (c.as_slice.ensures i) in
    spoilt told cause c.in-Err-BadValue.cause same ((c.create.ensures.bad c.in-Err-BadValue.cause).0 (c.in-Err-BadValue.is ∙ ap Err c.in-Err-BadValue.field-0-is))
