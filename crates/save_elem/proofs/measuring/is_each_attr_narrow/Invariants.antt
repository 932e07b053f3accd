use Rattle.std.proofs.Common.{◌↔◌, map}
use Rattle.std.specs.List.{AllByRecursion}
use Rattle.std.specs.FinMap.{entries}
use Rattle.save_elem.specs.Telling.{told_attr, IsNarrowAttr}
use Rattle.save_elem.proofs.measuring.is_each_attr_narrow.Given as goal

-- what is left decides
abbrev pub invariant-loop-name : goal.invariant-loop-name
invariant-loop-name l = AllByRecursion IsNarrowAttr (map told_attr l.name-iterator) ↔ AllByRecursion IsNarrowAttr (map told_attr (entries l.attrs))
