use Rattle.std.proofs.Common.{◌↔◌, drop}
use Rattle.std.specs.List.{AllByRecursion}
use Rattle.ws_elem.specs.Trees.{Whole}
use Rattle.save_valid.specs.Rules.{maps_at}
use Rattle.save_format.proofs.lists.are_whole.Given as goal

-- what is left decides
abbrev pub invariant-loop-tree : goal.invariant-loop-tree
invariant-loop-tree l = AllByRecursion Whole (maps_at (drop l.tree-index l.trees)) ↔ AllByRecursion Whole (maps_at l.trees)
