use Rattle.std.proofs.Common.{◌≡◌, ◌++◌, length}
use Rattle.std.specs.FinMap.{entries}
use Rattle.op_plan.specs.Inside.Walks.{entries_after}
use Rattle.build_due.specs.Inside.Walks.{seen_files}
use Rattle.build_due.proofs.sight.seen_files.Given as goal

-- the files so far, and those above the last place
abbrev pub invariant-loop-at : goal.invariant-loop-at
invariant-loop-at g l = l.files.items ++ seen_files l.inputs l.output (entries_after (g.T.TreeRep.tree l.tree) l.last) ≡ seen_files l.inputs l.output (entries (g.T.TreeRep.tree l.tree))

abbrev pub decreases-loop-at : goal.decreases-loop-at
decreases-loop-at g l = length (entries_after (g.T.TreeRep.tree l.tree) l.last)
