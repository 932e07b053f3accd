use Rattle.std.proofs.Common.{◌≡◌, ℕ, ◌<◌, ◌+◌, ◌-◌, length, ap, ◌∙◌, subst, arith}
use Rattle.std.specs.FinMap.{insert}
use Rattle.script_plan.specs.Inside.Books.{FindsFrom}
use Rattle.script_plan.proofs.Books.{finds_none, finds_next}
use Rattle.script_plan.proofs.book.places_of.Goals as goal

pub loop-from-init : goal.loop-from-init
loop-from-init c = (finds_none c.args.jobs.now (length c.args.jobs.now) c.empty-places.result (omega arith) c.empty-places.ensures, omega arith)

pub loop-from-preserved : goal.loop-from-preserved
loop-from-preserved c = (
  finds_next c.args.jobs.now (c.loop-from.from - 1) c.index-jobs-from.result c.loop-from.places c.put.new.self (omega (arith, c.loop-from-test.true, c.loop-from.invariant.1))
      (subst (λ k. FindsFrom k c.loop-from.places c.args.jobs.now) (one_less c.loop-from.from c.loop-from-test.true) c.loop-from.invariant.0)
      (c.in_ok-put.ensures ∙ ap (λ n. insert c.loop-from.places n (c.loop-from.from - 1)) c.in_ok-copy.ensures),
  omega (arith, c.loop-from.invariant.1),
)
  where
    one_less : (n : ℕ) → 0 < n → n ≡ n - 1 + 1
    one_less n some = omega (arith, some)
