use Rattle.std.proofs.Common.{◌↔◌, drop}
use Rattle.save_valid.specs.Rules.{maps_at}
use Rattle.save_valid.specs.Inside.Contents.{Agree, all_elements}
use Rattle.save_valid.proofs.contents.keep_trees.Given as goal

-- what is left decides
abbrev pub invariant-loop-tree : goal.invariant-loop-tree
invariant-loop-tree l = Agree l.contents (all_elements (maps_at (drop l.tree-index l.trees))) ↔ Agree l.initial.contents (all_elements (maps_at l.trees))
