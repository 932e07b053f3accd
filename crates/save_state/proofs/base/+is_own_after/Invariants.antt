use Rattle.std.proofs.Common.{length}
use Rattle.save_state.proofs.base.+is_own_after.Given as goal

abbrev pub decreases-is_own_after : goal.decreases-is_own_after
decreases-is_own_after g l = length l.changes.now
