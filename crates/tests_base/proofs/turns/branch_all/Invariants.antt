use Rattle.std.proofs.Common.{◌≡◌, false, All}
use Rattle.ws_turn.specs.Passes.{known, IsOf}
use Rattle.tests_base.proofs.turns.branch_all.Given as goal

abbrev pub invariant-loop : goal.invariant-loop
invariant-loop g l = IsOf l.lock l.first × ((known l.first).holds ≡ false) × All (λ p. IsOf l.lock p × ((known p).holds ≡ false)) l.passes.items
