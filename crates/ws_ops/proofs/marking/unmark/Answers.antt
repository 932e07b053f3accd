use Rattle.std.specs.FinMap.{remove}
use Rattle.op_kind.specs.Marking.{with_marks}
use Rattle.op_plan.proofs.Planned.{put_planned}
use Rattle.ws_ops.proofs.marking.unmark.Goals as goal

pub returns : goal.returns
returns g c =
    let tree = g.T.TreeRep.tree c.args.tree.now in
    let side = c.args.side.now in (
      c.in_ok-element.ensures.judged,
      put_planned tree side c.args.path.now (with_marks (λ marks. remove marks c.args.id)) c.in_ok-element.element.now c.in_ok-plan_unmark.field-0
          c.in_ok-element.ensures.element c.in_ok-plan_unmark.ensures,
    )
