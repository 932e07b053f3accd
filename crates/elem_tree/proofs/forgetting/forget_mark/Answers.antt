use Rattle.std.proofs.Common.{◌≡◌, ◌-◌, ℕ, zero, suc, arith, subst}
use Rattle.elem_tree.specs.Inside.Forgets.{MarkAt, NoMark}
use Rattle.elem_tree.proofs.Forgotten.{forgets_first, forgets_joined, forgets_none, mark_within}
use Rattle.elem_tree.proofs.Since.{on_ok}
use Rattle.elem_tree.proofs.forgetting.forget_mark.Goals as goal

after_first : (n : ℕ) → (n ≡ 0 → ⊥) → n ≡ suc (n - 1)
after_first zero h = absurd (h (λ i. 0))
after_first (suc n) h = omega arith

pub join_at-requires-clause-place : goal.join_at-requires-clause-place
join_at-requires-clause-place c =
    let lt = mark_within c.args.mark c.in-Some.place c.args.layers.now.items (subst (MarkAt c.args.mark c.in-Some.place) c.as_slice.ensures.value c.in-Some.ensures.at) in
    let is = after_first c.in-Some.place c.in-Some.place-test.1 in
    omega (arith, lt, is)

pub returns-in-None-clause-ok : goal.returns-in-None-clause-ok
returns-in-None-clause-ok c =
    forgets_none c.args.mark c.args.layers.now.items (subst (NoMark c.args.mark) c.as_slice.ensures.value c.in-None.ensures.none) c.requires.rising c.requires.ended

pub returns-in-Some-eq0-clause-ok : goal.returns-in-Some-eq0-clause-ok
returns-in-Some-eq0-clause-ok c =
    forgets_first c.args.mark c.args.layers.now.items c.remove.new.layers.items
    (subst (λ n. MarkAt c.args.mark n c.args.layers.now.items) c.in-Some-eq0.field-0-test (subst (MarkAt c.args.mark c.in-Some-eq0.field-0) c.as_slice.ensures.value c.in-Some-eq0.ensures.at))
    c.remove.ensures c.requires.rising c.requires.ended

pub returns-in-Some-clause-ok : goal.returns-in-Some-clause-ok
returns-in-Some-clause-ok c = on_ok c.join_at.result c.join_at.ensures.ok (λ joined.
    forgets_joined c.args.mark (c.in-Some.place - 1) c.args.layers.now.items c.join_at.new.layers.items
    (subst (λ n. MarkAt c.args.mark n c.args.layers.now.items) (after_first c.in-Some.place c.in-Some.place-test.1)
    (subst (MarkAt c.args.mark c.in-Some.place) c.as_slice.ensures.value c.in-Some.ensures.at))
    joined c.requires.rising c.requires.ended)
