use Rattle.std.proofs.Common.{length}
use Rattle.op_plan.proofs.checks.+project_of.Given as goal

abbrev pub decreases-project_of : goal.decreases-project_of
decreases-project_of l = length l.path.now
