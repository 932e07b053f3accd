use Rattle.std.proofs.Common.{drop, map}
use Rattle.delta_kind.specs.declared.row.Turn.TheVariants.{Lost}
use Rattle.delta_kind.specs.Rows.{shown}
use Rattle.delta_kind.proofs.Table.{Keeping}
use Rattle.delta_kind.proofs.places.Places.of_losers.Given as goal

abbrev pub invariant-loop-row : goal.invariant-loop-row
invariant-loop-row l = Keeping Lost (map shown l.rows) (map shown (drop l.row-index l.rows)) l.places
