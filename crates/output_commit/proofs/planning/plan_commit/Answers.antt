use Rattle.output_commit.proofs.Gone.{members_below}
use Rattle.output_commit.proofs.planning.plan_commit.Goals as goal

pub files_after-requires : goal.files_after-requires
files_after-requires g c = members_below (g.T.TreeRep.tree c.args.tree.now) c.args.output.now c.in_ok-found.found c.in_ok-found.ensures
