use Rattle.proj_desc.specs.FirstCause.{first_cause}
use Rattle.op_kind.specs.Refusals.{above_causes, number_causes}
use Rattle.op_kind.specs.Resources.{resources}
use Rattle.op_plan.proofs.Causes.{stops, handed_on}
use Rattle.op_plan.proofs.checks.check_around.Goals as goal

pub returns-in_err-check_above-clause-judged : goal.returns-in_err-check_above-clause-judged
returns-in_err-check_above-clause-judged g c =
    let t = g.T.TreeRep.tree c.args.tree.now in
    let above = above_causes t c.args.path.now in
    let numbers = number_causes (resources t c.args.side.now) 1 c.args.stamps in
    handed_on (first_cause above) _ c.from_residual.result c.in_err-check_above.field-0.0 c.from_residual.ensures.1
    (λ x h. stops above numbers x h) c.in_err-check_above.ensures
