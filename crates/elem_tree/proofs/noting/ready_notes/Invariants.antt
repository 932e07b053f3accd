use Rattle.std.proofs.Common.{length}
use Rattle.elem_tree.proofs.Rooms.{Readying}
use Rattle.elem_tree.proofs.noting.ready_notes.Given as goal

abbrev pub invariant-loop-path : goal.invariant-loop-path
invariant-loop-path l = Readying l.newest.map l.newest.room l.rest l.notes

abbrev pub decreases-loop-path : goal.decreases-loop-path
decreases-loop-path l = length l.rest
