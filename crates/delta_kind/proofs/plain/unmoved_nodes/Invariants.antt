use Rattle.std.specs.Prelude.{filter}
use Rattle.std.specs.Option.{option_copied}
use Rattle.delta_kind.specs.Inside.Walks.{rows_left}
use Rattle.delta_kind.proofs.Merged.{row_differs, rows_between}
use Rattle.delta_kind.proofs.Unmoved.{Telling}
use Rattle.delta_kind.proofs.plain.unmoved_nodes.Given as goal

-- what was told so far, and the rows that differ of what is left
abbrev pub invariant-loop-row : goal.invariant-loop-row
invariant-loop-row l = Telling (rows_between l.before.map l.after.map) l.told.nodes.items (option_copied l.told.last) l.told.lost l.told.gained (filter row_differs (rows_left l.row-iterator))
