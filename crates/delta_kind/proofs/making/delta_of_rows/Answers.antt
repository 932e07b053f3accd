use Rattle.std.proofs.Common.{None, map, sym, subst, ◌∙◌}
use Rattle.std.specs.FinMap.{get}
use Rattle.delta_kind.specs.declared.row.Turn.TheVariants.{Lost, Gained}
use Rattle.delta_kind.specs.Deltas.{InPathOrder, paths_of}
use Rattle.delta_kind.specs.Rows.{shown, place_in, node_by}
use Rattle.delta_kind.proofs.Table.{pass_same}
use Rattle.delta_kind.proofs.Told.{pass_is, pass_rises}
use Rattle.delta_kind.proofs.making.delta_of_rows.Goals as goal

pub of-requires : goal.of-requires
of-requires c = subst (λ nodes. InPathOrder (paths_of nodes)) (sym c.in_ok-nodes.ensures) (pass_rises (get c.in_ok-moves.moves.losers) (get c.in_ok-moves.moves.gainers) (map shown c.args.rows.now) c.requires)

pub returns : goal.returns
returns c =
    let rows = map shown c.args.rows.now in
    c.of.ensures ∙ c.in_ok-nodes.ensures
    ∙ pass_same (node_by (get c.in_ok-moves.moves.losers) (get c.in_ok-moves.moves.gainers)) (node_by (place_in Lost rows) (place_in Gained rows)) None rows c.in_ok-moves.ensures
    ∙ pass_is rows c.requires
