use Rattle.std.specs.FinMap.{len}
use Rattle.elem_tree.proofs.Joins.{TakesUnder}
use Rattle.elem_tree.proofs.joining.take_under.Given as goal

abbrev pub invariant-loop-path : goal.invariant-loop-path
invariant-loop-path l = TakesUnder l.fn.earlier l.fn.later l.rest l.earlier

abbrev pub decreases-loop-path : goal.decreases-loop-path
decreases-loop-path l = len l.rest
