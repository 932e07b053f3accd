use Rattle.std.proofs.Common.{map, sym, subst}
use Rattle.delta_kind.specs.declared.row.Turn.TheVariants.{Lost}
use Rattle.delta_kind.specs.Rows.{shown}
use Rattle.delta_kind.proofs.Table.{Keeping, keeping_begins, keeping_row}
use Rattle.delta_kind.proofs.places.Places.of_losers.Goals as goal

pub loop-row-init : goal.loop-row-init
loop-row-init c = subst (Keeping Lost (map shown c.args.rows.now) (map shown c.args.rows.now)) (sym c.none-places.ensures) (keeping_begins Lost (map shown c.args.rows.now))

pub loop-row-preserved : goal.loop-row-preserved
loop-row-preserved c = keeping_row Lost c.args.rows.now c.loop-row.row-index c.row-item.result c.loop-row.places c.keep.new.self c.turned.result
    c.loop-row-test.true c.row-item.is c.loop-row.invariant c.in_ok-keep.ensures c.turned.ensures
