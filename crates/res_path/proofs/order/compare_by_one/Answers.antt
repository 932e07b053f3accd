use Rattle.std.proofs.Common.{◌≡◌, ℕ, ◌<◌, ◌≤◌, List, length, drop, sym, ◌∙◌, refl, arith, drop-cons, Less, Greater}
use Rattle.std.proofs.Math.ListN.{drop_of_length-le}
use Rattle.res_path.specs.Inside.Order.{text_cmp}
use Rattle.res_path.proofs.order.compare_by_one.Goals as goal

-- where the second text has ended and the first has not, the first comes after
longer : (a b : List ℕ) (i : ℕ) → i < length a → length b ≤ i → text_cmp (drop i a) (drop i b) ≡ Greater
longer a b i h g = rw (drop-cons a i 0, drop_of_length-le b g) refl

shorter : (a b : List ℕ) (i : ℕ) → length a ≤ i → i < length b → text_cmp (drop i a) (drop i b) ≡ Less
shorter a b i h g = rw (drop-cons b i 0, drop_of_length-le a h) refl

pub returns-then-i-b : goal.returns-then-i-b
returns-then-i-b c = sym (c.loop-i.invariant ∙ longer c.args.a.now c.args.b.now c.loop-i.i c.loop-i-test.true c.if-i-b.true)

pub returns-then-a-b : goal.returns-then-a-b
returns-then-a-b c = sym (c.loop-i.invariant ∙ shorter c.args.a.now c.args.b.now c.loop-i.i (omega arith) (omega arith))
