use Rattle.std.proofs.Common.{ap}
use Rattle.op_kind.specs.Resources.{resources}
use Rattle.op_plan.specs.Inside.Plans.{planned}
use Rattle.ws_ops.proofs.projects.forget.Goals as goal

pub returns : goal.returns
returns g c = (
  c.in_ok-project_at.ensures.judged,
  ap (planned (resources (g.T.TreeRep.tree c.args.tree.now) c.args.side.now)) c.nothing.ensures,
)
