use Rattle.std.proofs.Common.{◌≡◌, ◌++◌, take, drop, map}
use Rattle.rule_table.specs.Tables.{handed}
use Rattle.rule_table.proofs.search.move_all.Given as goal

abbrev pub invariant-loop-i : goal.invariant-loop-i
invariant-loop-i g l = l.all ≡ map (handed l.from l.to) (take l.i l.fn.all) ++ drop l.i l.fn.all
