use Rattle.std.proofs.Common.{◌≡◌, ◌++◌, length}
use Rattle.tests_std.proofs.views.in_order.Given as goal

-- the files so far, and those that are left
abbrev pub invariant-loop-file : goal.invariant-loop-file
invariant-loop-file l = l.rows.items ++ l.left.entries ≡ l.fn.files.entries

abbrev pub decreases-loop-file : goal.decreases-loop-file
decreases-loop-file l = length l.left.entries
