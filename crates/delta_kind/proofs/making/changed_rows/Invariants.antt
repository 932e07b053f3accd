use Rattle.std.proofs.Common.{◌≡◌, ◌++◌, map}
use Rattle.std.specs.Prelude.{filter}
use Rattle.delta_kind.specs.Rows.{shown}
use Rattle.delta_kind.specs.Inside.Walks.{rows_left}
use Rattle.delta_kind.proofs.Merged.{row_differs, rows_between}
use Rattle.delta_kind.proofs.making.changed_rows.Given as goal

-- the rows so far, and those that differ of what is left
abbrev pub invariant-loop-row : goal.invariant-loop-row
invariant-loop-row l = map shown l.rows.items ++ filter row_differs (rows_left l.row-iterator) ≡ rows_between l.before.map l.after.map
