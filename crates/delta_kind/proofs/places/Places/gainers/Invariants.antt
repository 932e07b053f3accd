use Rattle.std.proofs.Common.{drop, map}
use Rattle.delta_kind.specs.declared.row.Turn.TheVariants.{Gained}
use Rattle.delta_kind.specs.Rows.{shown}
use Rattle.delta_kind.proofs.Table.{KeepingKnown}
use Rattle.delta_kind.proofs.places.Places.gainers.Given as goal

abbrev pub invariant-loop-row : goal.invariant-loop-row
invariant-loop-row l = KeepingKnown l.self Gained (map shown l.rows) (map shown (drop l.row-index l.rows)) l.places
