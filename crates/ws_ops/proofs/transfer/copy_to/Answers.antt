use Rattle.op_plan.proofs.Planned.{copy_planned}
use Rattle.ws_ops.proofs.transfer.copy_to.Goals as goal

pub returns : goal.returns
returns g c =
    let tree = g.T.TreeRep.tree c.args.tree.now in
    let side = c.args.side.now in (
      c.in_ok-carried.ensures.judged,
      copy_planned tree side c.args.from.now c.args.to.now c.in_ok-carried.carried c.in_ok-plan_copy.field-0 c.in_ok-carried.ensures.carried c.in_ok-plan_copy.ensures,
    )
