use Rattle.std.proofs.Common.{◌≡◌, ◌+◌, ◌-◌, ◌^◌, ◌<◌, length}
use Rattle.std.specs.Prelude.{min}
use Rattle.std.specs.FinMap.{entries}
use Rattle.tree_rows.specs.Inside.Pairs.{merged, rows_in}
use Rattle.save_text.proofs.source.count_between.Given as goal

-- what was counted, and what is left to count
abbrev pub invariant-loop-row : goal.invariant-loop-row
invariant-loop-row l = (l.count < 2 ^ 64) × (min (l.count + length l._row-iterator) (2 ^ 64 - 1) ≡ min (length (rows_in (merged (entries l.before.map) (entries l.after.map)))) (2 ^ 64 - 1))
