use Rattle.std.proofs.Common.{◌≡◌, ◌++◌, length}
use Rattle.std.specs.FinMap.{entries}
use Rattle.std_kit.specs.Inside.Walks.{puts}
use Rattle.std_kit.proofs.changes.put_all.Given as goal

-- the edits so far, and the puts of what is left
abbrev pub invariant-loop-path : goal.invariant-loop-path
invariant-loop-path l = l.edits.items ++ puts l.left ≡ l.fn.edits.items ++ puts l.fn.left

abbrev pub decreases-loop-path : goal.decreases-loop-path
decreases-loop-path l = length (entries l.left)
