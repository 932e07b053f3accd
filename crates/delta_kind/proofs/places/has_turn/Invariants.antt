use Rattle.std.proofs.Common.{◌≡◌, drop, map}
use Rattle.delta_kind.specs.Rows.{shown}
use Rattle.delta_kind.specs.Inside.Passes.{has_turn}
use Rattle.delta_kind.proofs.places.has_turn.Given as goal

-- no row so far loses a node, or none gains one
abbrev pub invariant-loop-row : goal.invariant-loop-row
invariant-loop-row l = has_turn l.turn (map shown (drop l.row-index l.rows)) ≡ has_turn l.turn (map shown l.rows)
