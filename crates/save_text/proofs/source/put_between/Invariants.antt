use Rattle.std.proofs.Common.{◌≡◌, map}
use Rattle.std.specs.List.{flat_map, AllByRecursion}
use Rattle.std.specs.FinMap.{entries}
use Rattle.tree_rows.specs.Inside.Pairs.{merged, rows_in}
use Rattle.save_text.specs.Telling.{told_row, IsNarrowChange}
use Rattle.save_text.specs.Inside.Spellings.{spell_row}
use Rattle.save_text.proofs.source.put_between.Given as goal

-- the rows that are left complete the text
abbrev pub invariant-loop-row : goal.invariant-loop-row
invariant-loop-row g l = (g.S.Sink.after l.sink (flat_map spell_row l.row-iterator) ≡ g.S.Sink.after l.initial.sink (flat_map spell_row (rows_in (merged (entries l.before.map) (entries l.after.map)))))
    × AllByRecursion IsNarrowChange (map told_row l.row-iterator)
