use Rattle.std.proofs.Common.{◌≡◌}
use Rattle.std.specs.Prelude.{drop}
use Rattle.elem_tree.specs.Inside.Slots.{closed_all}
use Rattle.elem_tree.proofs.notes.Notes.close_all.Given as goal

abbrev pub invariant-loop-path : goal.invariant-loop-path
invariant-loop-path l = closed_all l.self (drop l.path-index l.paths) ≡ closed_all l.fn.self l.fn.paths
