use Rattle.std.proofs.Common.{◌≡◌, false}
use Rattle.ws_turn.specs.Passes.{known, IsOf}
use Rattle.tests_base.proofs.turns.take_turns.Given as goal

abbrev pub invariant-loop-turn : goal.invariant-loop-turn
invariant-loop-turn g l = IsOf l.lock l.pass × ((known l.pass).holds ≡ false)
