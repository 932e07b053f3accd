use Rattle.op_plan.proofs.Planned.{stamp_planned}
use Rattle.ws_ops.proofs.contents.touch.Goals as goal

pub returns : goal.returns
returns g c =
    let tree = g.T.TreeRep.tree c.args.tree.now in
    let side = c.args.side.now in (
      c.in_ok-element.ensures.judged,
      stamp_planned tree side c.args.path.now (λ e. record e { stamp = side.next_stamp }) c.in_ok-element.element.now c.in_ok-plan_touch.field-0
          c.in_ok-element.ensures.element c.in_ok-plan_touch.ensures,
    )
