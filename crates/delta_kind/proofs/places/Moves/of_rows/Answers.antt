use Rattle.std.proofs.Common.{map, sym, ◌∙◌}
use Rattle.delta_kind.specs.Rows.{shown}
use Rattle.delta_kind.proofs.Table.{tables_serve, nothing_kept, nothing_lost, nothing_gained}
use Rattle.delta_kind.proofs.places.Moves.of_rows.Goals as goal

pub returns-then-not-has_turn : goal.returns-then-not-has_turn
returns-then-not-has_turn c =
    let rows = map shown c.args.rows.now in
    nothing_kept c.none.result.losers c.none.result.gainers rows c.none.ensures.losers c.none.ensures.gainers (nothing_lost rows (sym c.has_turn.ensures ∙ c.if-not-has_turn.true))

pub returns-then-not-has_turn-2 : goal.returns-then-not-has_turn-2
returns-then-not-has_turn-2 c =
    let rows = map shown c.args.rows.now in
    nothing_kept c.none-then-not-has_turn-2.result.losers c.none-then-not-has_turn-2.result.gainers rows c.none-then-not-has_turn-2.ensures.losers c.none-then-not-has_turn-2.ensures.gainers (nothing_gained rows (sym c.has_turn-2.ensures ∙ c.if-not-has_turn-2.true))

pub returns : goal.returns
returns c = tables_serve c.in_ok-losers.losers c.in_ok-gainers.gainers (map shown c.args.rows.now) c.in_ok-losers.ensures c.in_ok-gainers.ensures
