use Rattle.op_plan.proofs.Lost.{flush_planned}
use Rattle.ws_ops.proofs.syncing.flush.Goals as goal

pub returns : goal.returns
returns g c =
    let tree = g.T.TreeRep.tree c.args.tree.now in
    let side = c.args.side.now in (
      c.in_ok-number.ensures.judged,
      flush_planned tree side c.args.path.now c.args.name.now c.args.depth c.in_ok-number.number c.in_ok-plan_flush.field-0 c.in_ok-number.ensures.number c.in_ok-plan_flush.ensures,
    )
