use Rattle.op_kind.specs.Marking.{with_marks, with_attribute_of}
use Rattle.op_plan.proofs.Planned.{found_planned}
use Rattle.ws_ops.proofs.marking.set_attribute.Goals as goal

pub returns : goal.returns
returns g c =
    let tree = g.T.TreeRep.tree c.args.tree.now in
    let side = c.args.side.now in (
      c.in_ok-changed.ensures.judged,
      found_planned tree side c.args.path.now (with_marks (λ marks. with_attribute_of marks c.args.id c.args.name.now c.args.value.now)) c.in_ok-changed.changed c.in_ok-put.field-0
          c.in_ok-changed.ensures.element c.in_ok-put.ensures,
    )
