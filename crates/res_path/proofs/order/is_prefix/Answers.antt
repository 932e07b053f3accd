use Rattle.std.proofs.Common.{◌≡◌, ℕ, ◌<◌, ◌≤◌, false, List, length, drop, sym, ◌∙◌, refl, drop-cons}
use Rattle.std.proofs.Math.ListN.{drop_of_length-le}
use Rattle.res_path.specs.Inside.Order.{text_prefix}
use Rattle.res_path.proofs.order.is_prefix.Goals as goal

-- the second text has ended and the first has not
ended : (p q : List ℕ) (i : ℕ) → i < length p → length q ≤ i → text_prefix (drop i p) (drop i q) ≡ false
ended p q i h g = rw (drop-cons p i 0, drop_of_length-le q g) refl

pub returns-then-i-q : goal.returns-then-i-q
returns-then-i-q c = sym (c.loop-i.invariant.left ∙ ended c.args.p.now c.args.q.now c.loop-i.i c.loop-i-test.true c.if-i-q.true)
