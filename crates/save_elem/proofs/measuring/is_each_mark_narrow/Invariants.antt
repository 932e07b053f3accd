use Rattle.std.proofs.Common.{◌↔◌, map}
use Rattle.std.specs.List.{AllByRecursion}
use Rattle.save_elem.specs.Telling.{told_mark, saved, lasting, IsNarrowMark}
use Rattle.save_elem.proofs.measuring.is_each_mark_narrow.Given as goal

-- what is left decides
abbrev pub invariant-loop-of : goal.invariant-loop-of
invariant-loop-of l = AllByRecursion IsNarrowMark (map told_mark (saved l.of-iterator)) ↔ AllByRecursion IsNarrowMark (map told_mark (lasting l.marks))
