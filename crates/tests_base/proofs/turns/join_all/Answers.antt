use Rattle.std.proofs.Common.{◌≡◌, suc, false, ap, ◌∙◌, subst, All, arith}
use Rattle.ws_turn.specs.Passes.{known, IsOf}
use Rattle.tests_base.proofs.turns.join_all.Goals as goal

pub loop-pass-preserved : goal.loop-pass-preserved
loop-pass-preserved c =
    let all = subst (All (λ p. IsOf c.args.lock.now p × ((known p).holds ≡ false))) c.in-Some.ensures.steps.0 c.loop-pass.invariant.2 in
    let one = all 0 c.in-Some.pass (omega arith) in (
      c.join.ensures.of,
      ap (λ k. k.holds) c.join.ensures.pass ∙ one.1,
      (λ k d lt. all (suc k) d (omega (arith, lt))),
    )
