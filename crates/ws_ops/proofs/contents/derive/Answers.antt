use Rattle.op_plan.proofs.Planned.{put_planned}
use Rattle.ws_ops.proofs.contents.derive.Goals as goal

pub returns : goal.returns
returns g c =
    let tree = g.T.TreeRep.tree c.args.tree.now in
    let side = c.args.side.now in (
      c.in_ok-element.ensures.judged,
      put_planned tree side c.args.path.now (λ e. record e { derived = c.args.on }) c.in_ok-element.element.now c.in_ok-plan_derived.field-0
          c.in_ok-element.ensures.element c.in_ok-plan_derived.ensures,
    )
