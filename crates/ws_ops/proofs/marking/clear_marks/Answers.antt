use Rattle.op_plan.proofs.Lost.{clear_planned}
use Rattle.ws_ops.proofs.marking.clear_marks.Goals as goal

pub returns : goal.returns
returns g c =
    let tree = g.T.TreeRep.tree c.args.tree.now in
    let side = c.args.side.now in (
      c.in_ok-there_open.ensures.judged,
      clear_planned tree side c.args.path.now c.args.mark_type.now c.args.depth c.in_ok-plan_clearing.field-0 c.in_ok-plan_clearing.ensures,
    )
