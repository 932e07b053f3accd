use Rattle.op_plan.proofs.Planned.{deletion_planned}
use Rattle.ws_ops.proofs.deletion.delete.Goals as goal

pub returns : goal.returns
returns g c =
    let tree = g.T.TreeRep.tree c.args.tree.now in
    let side = c.args.side.now in (
      c.in_ok-check_deletion.ensures,
      deletion_planned tree side c.args.path.now c.in_ok-plan_deletion.field-0 c.in_ok-plan_deletion.ensures,
    )
