use Rattle.op_plan.proofs.Planned.{move_planned}
use Rattle.ws_ops.proofs.transfer.move_to.Goals as goal

pub returns : goal.returns
returns g c =
    let tree = g.T.TreeRep.tree c.args.tree.now in
    let side = c.args.side.now in (
      c.in_ok-relocation.ensures.judged,
      move_planned tree side c.args.from.now c.args.to.now c.in_ok-relocation.relocation.members c.in_ok-relocation.relocation.carried c.in_ok-plan_move.field-0
          c.in_ok-relocation.ensures.members c.in_ok-relocation.ensures.carried c.in_ok-plan_move.ensures,
    )
