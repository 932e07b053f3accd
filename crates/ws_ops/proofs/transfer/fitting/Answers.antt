use Rattle.op_plan.proofs.Carried.{branch_under}
use Rattle.ws_ops.proofs.transfer.fitting.Goals as goal

pub carry-requires-clause-under : goal.carry-requires-clause-under
carry-requires-clause-under g c = branch_under (g.T.TreeRep.tree c.args.tree.now) c.args.from.now c.in_ok-members.members c.in_ok-members.ensures
