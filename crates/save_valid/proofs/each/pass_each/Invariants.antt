use Rattle.std.proofs.Common.{◌↔◌}
use Rattle.std.specs.List.{AllByRecursion}
use Rattle.std.specs.FinMap.{entries}
use Rattle.save_valid.proofs.each.pass_each.Given as goal

-- what is left decides
abbrev pub invariant-loop-path : goal.invariant-loop-path
invariant-loop-path g l = AllByRecursion (λ e. g.T.Test.holds l.test e.0 e.1) l.path-iterator ↔ AllByRecursion (λ e. g.T.Test.holds l.test e.0 e.1) (entries l.tree.map)
