use Rattle.std.proofs.Common.{◌≡◌, length}
use Rattle.tree_rows.specs.Inside.Pairs.{pairs_left, rows_in}
use Rattle.tree_rows.proofs.rows.BetweenIterator.next.Given as goal

-- pairs that were passed over have no row
abbrev pub invariant-loop-pair : goal.invariant-loop-pair
invariant-loop-pair l = rows_in (pairs_left l.self-inside.pairs) ≡ l.fn.self

abbrev pub decreases-loop-pair : goal.decreases-loop-pair
decreases-loop-pair l = length (pairs_left l.self-inside.pairs)
