use Rattle.elem_tree.proofs.Gathers.{Gathering}
use Rattle.elem_tree.proofs.gathering.gather_notes.Given as goal

abbrev pub invariant-loop-path : goal.invariant-loop-path
invariant-loop-path l = Gathering l.fn.changes l.notes l.newest.map l.changes l.path-iterator
