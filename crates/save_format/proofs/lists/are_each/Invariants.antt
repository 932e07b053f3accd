use Rattle.std.proofs.Common.{◌↔◌, drop}
use Rattle.std.specs.List.{AllByRecursion}
use Rattle.save_valid.specs.Rules.{Each, maps_at}
use Rattle.save_format.proofs.lists.are_each.Given as goal

-- what is left decides
abbrev pub invariant-loop-tree : goal.invariant-loop-tree
invariant-loop-tree g l = AllByRecursion (Each (g.T.Test.holds l.test)) (maps_at (drop l.tree-index l.trees)) ↔ AllByRecursion (Each (g.T.Test.holds l.test)) (maps_at l.trees)
