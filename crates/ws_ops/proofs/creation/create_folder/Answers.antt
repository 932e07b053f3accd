use Rattle.op_kind.specs.Resources.{resources}
use Rattle.op_plan.specs.Inside.Plans.{planned}
use Rattle.std.proofs.Common.{ap}
use Rattle.ws_ops.proofs.creation.create_folder.Goals as goal

pub returns : goal.returns
returns g c =
    let tree = g.T.TreeRep.tree c.args.tree.now in
    let side = c.args.side.now in (
      c.in_ok-check_new_member.ensures.judged,
      ap (planned (resources tree side)) c.in_ok-plan_folder.ensures,
    )
