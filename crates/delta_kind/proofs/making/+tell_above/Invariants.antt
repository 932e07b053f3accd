use Rattle.std.proofs.Common.{length}
use Rattle.delta_kind.proofs.making.+tell_above.Given as goal

abbrev pub decreases-tell_above : goal.decreases-tell_above
decreases-tell_above l = length l.path.now
