use Rattle.std.proofs.Common.{length}
use Rattle.std_kit.proofs.calm.+has_above.Given as goal

abbrev pub decreases-has_above : goal.decreases-has_above
decreases-has_above l = length l.path.now
