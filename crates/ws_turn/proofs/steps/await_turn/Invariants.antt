use Rattle.std.proofs.Common.{◌≡◌}
use Rattle.ws_turn.proofs.steps.await_turn.Given as goal

abbrev pub invariant-loop : goal.invariant-loop
invariant-loop g l =
    (goal.iterator-loop g).can_next l.iterator' × (goal.iterator-loop g).is_finite l.iterator'
    × (l.chair.me ≡ l.initial.chair.me) × (l.chair.table_id ≡ l.initial.chair.table_id) × (l.chair.id ≡ l.initial.chair.id)
