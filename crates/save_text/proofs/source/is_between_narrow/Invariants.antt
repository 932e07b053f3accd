use Rattle.std.proofs.Common.{◌↔◌, map}
use Rattle.std.specs.List.{AllByRecursion}
use Rattle.std.specs.FinMap.{entries}
use Rattle.tree_rows.specs.Inside.Pairs.{merged, rows_in}
use Rattle.save_text.specs.Telling.{told_row, IsNarrowChange}
use Rattle.save_text.proofs.source.is_between_narrow.Given as goal

-- what is left decides
abbrev pub invariant-loop-row : goal.invariant-loop-row
invariant-loop-row l = AllByRecursion IsNarrowChange (map told_row l.row-iterator) ↔ AllByRecursion IsNarrowChange (map told_row (rows_in (merged (entries l.before.map) (entries l.after.map))))
