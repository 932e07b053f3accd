use Rattle.std.proofs.Common.{◌≡◌}
use Rattle.pass_turns.specs.Turns.{knows, IsOf, LookedOn}
use Rattle.pass_turns.proofs.room.Room.wait.Given as goal

-- the pass has looked on, and the attempt is as it was
abbrev pub invariant-loop : goal.invariant-loop
invariant-loop g l =
    (goal.iterator-loop g).can_next l.iterator' × (goal.iterator-loop g).is_finite l.iterator'
    × IsOf l.self l.pass × LookedOn g.S.Logged.by (knows l.fn.pass) (knows l.pass) × (l.attempt ≡ l.fn.attempt)
