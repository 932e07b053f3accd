use Rattle.std.proofs.Common.{◌≡◌, ◌++◌, None, drop, map}
use Rattle.std.specs.FinMap.{get}
use Rattle.std.specs.Option.{option_copied}
use Rattle.delta_kind.specs.Rows.{shown, node_by}
use Rattle.delta_kind.specs.Inside.Passes.{nodes_from}
use Rattle.delta_kind.proofs.making.nodes_of.Given as goal

-- the nodes so far, and those of the rows that are left
abbrev pub invariant-loop-row : goal.invariant-loop-row
invariant-loop-row l = l.nodes.items ++ nodes_from (node_by (get l.moves.losers) (get l.moves.gainers)) (option_copied l.last) (map shown (drop l.row-index l.rows)) ≡ nodes_from (node_by (get l.moves.losers) (get l.moves.gainers)) None (map shown l.rows)
