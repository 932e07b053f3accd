use Rattle.std.proofs.Common.{length}
use Rattle.output_commit.proofs.planning.+project_of.Given as goal

abbrev pub decreases-project_of : goal.decreases-project_of
decreases-project_of l = length l.path.now
