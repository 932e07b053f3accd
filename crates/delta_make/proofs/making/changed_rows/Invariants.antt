use Rattle.std.proofs.Common.{◌≡◌, ◌++◌, map}
use Rattle.delta_kind.specs.Rows.{shown}
use Rattle.delta_make.specs.Inside.Changed.{changed_rows}
use Rattle.delta_make.proofs.Changed.{rows_of}
use Rattle.delta_make.proofs.making.changed_rows.Given as goal

-- the rows so far, and those of what is left
abbrev pub invariant-loop-path : goal.invariant-loop-path
invariant-loop-path l = map shown l.rows.items ++ rows_of l.path-iterator ≡ changed_rows l.changes
