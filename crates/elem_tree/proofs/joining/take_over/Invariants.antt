use Rattle.std.specs.FinMap.{len}
use Rattle.elem_tree.proofs.Joins.{TakesOver}
use Rattle.elem_tree.proofs.joining.take_over.Given as goal

abbrev pub invariant-loop-path : goal.invariant-loop-path
invariant-loop-path l = TakesOver l.fn.earlier l.fn.later l.rest l.later

abbrev pub decreases-loop-path : goal.decreases-loop-path
decreases-loop-path l = len l.rest
