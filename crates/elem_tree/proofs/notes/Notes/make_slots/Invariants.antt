use Rattle.elem_tree.specs.Inside.Joins.{IsSpared}
use Rattle.elem_tree.proofs.Joins.{Slotting}
use Rattle.elem_tree.proofs.notes.Notes.make_slots.Given as goal

abbrev pub invariant-loop-path : goal.invariant-loop-path
invariant-loop-path l = IsSpared l.fn.self l.self × Slotting l.others l.self l.path-iterator
