use Rattle.op_kind.specs.Marking.{with_marks, with_marker}
use Rattle.op_plan.proofs.Planned.{mark_planned}
use Rattle.ws_ops.proofs.marking.mark.Goals as goal

pub returns : goal.returns
returns g c =
    let tree = g.T.TreeRep.tree c.args.tree.now in
    let side = c.args.side.now in (
      c.in_ok-marked.ensures.judged,
      mark_planned tree side c.args.path.now (with_marks (λ marks. with_marker marks side.next_marker c.args.mark_type.now c.args.attrs.now)) c.in_ok-marked.marked c.in_ok-plan_mark.field-0
          c.in_ok-marked.ensures.element c.in_ok-plan_mark.ensures,
    )
