use Rattle.std.proofs.Common.{map, ap, sym, subst, ◌∙◌}
use Rattle.delta_kind.specs.declared.row.Turn.TheVariants.{Gained}
use Rattle.delta_kind.specs.Rows.{shown}
use Rattle.delta_kind.specs.Inside.Tables.{known}
use Rattle.delta_kind.proofs.Table.{KeepingKnown, known_begins, known_row}
use Rattle.delta_kind.proofs.places.Places.gainers.Goals as goal

pub loop-row-init : goal.loop-row-init
loop-row-init c = subst (KeepingKnown c.args.self.now Gained (map shown c.args.rows.now) (map shown c.args.rows.now)) (sym c.none-places.ensures) (known_begins c.args.self.now Gained (map shown c.args.rows.now))

pub loop-row-preserved : goal.loop-row-preserved
loop-row-preserved c = known_row c.args.self.now Gained c.args.rows.now c.loop-row.row-index c.row-item.result c.loop-row.places c.keep.new.self c.known.result
    c.loop-row-test.true c.row-item.is c.loop-row.invariant c.in_ok-keep.ensures (c.known.ensures ∙ ap (known c.args.self.now) c.turned.ensures)
