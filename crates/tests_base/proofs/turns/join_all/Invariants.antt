use Rattle.std.proofs.Common.{◌≡◌, false, All}
use Rattle.std.specs.Vec.Iter.{into_iter_items}
use Rattle.ws_turn.specs.Passes.{known, IsOf}
use Rattle.tests_base.proofs.turns.join_all.Given as goal

abbrev pub invariant-loop-pass : goal.invariant-loop-pass
invariant-loop-pass l = IsOf l.lock l.first × ((known l.first).holds ≡ false) × All (λ p. IsOf l.lock p × ((known p).holds ≡ false)) (into_iter_items l.pass-iterator)
