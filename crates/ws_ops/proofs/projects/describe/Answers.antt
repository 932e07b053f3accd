use Rattle.op_plan.proofs.Planned.{describe_planned}
use Rattle.ws_ops.proofs.projects.describe.Goals as goal

pub returns : goal.returns
returns g c =
    let tree = g.T.TreeRep.tree c.args.tree.now in
    let side = c.args.side.now in (
      c.in_ok-project.ensures.judged,
      describe_planned tree side c.args.path.now c.args.text.now c.in_ok-project.project.now c.in_ok-project.desc c.in_ok-plan_description.field-0
          c.in_ok-project.ensures.element c.in_ok-project.ensures.desc c.in_ok-plan_description.ensures,
    )
