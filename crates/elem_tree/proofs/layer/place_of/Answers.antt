use Rattle.std.proofs.Common.{◌≡◌, true, false, subst}
use Rattle.std.specs.Prelude.{Option, None, IsSome}
use Rattle.elem_tree.proofs.Forgotten.{mark_at, no_mark_at, no_mark_behind}
use Rattle.elem_tree.proofs.layer.place_of.Goals as goal

none : {X : Type 0} (r : Option X) → r ≡ None → IsSome r → ⊥
none r is h = no (subst IsSome is h)
  where
    no : false ≡ true → ⊥
    no e = cc

pub returns-in-Some-clause-at : goal.returns-in-Some-clause-at
returns-in-Some-clause-at c =
    mark_at c.args.mark c.count_before-place.result c.args.layers.now c.in-Some.layer.now c.count_before-place.ensures.before c.in-Some.ensures.lookup.3.0 c.in-Some.ensures.lookup.1 c.if-layer-mark.true

pub returns-in_default-clause-none : goal.returns-in_default-clause-none
returns-in_default-clause-none c =
    no_mark_at c.args.mark c.count_before-place.result c.args.layers.now c.in-Some.layer.now c.requires c.count_before-place.ensures.before c.count_before-place.ensures.from
    c.in-Some.ensures.lookup.3.0 c.in-Some.ensures.lookup.1 c.if-layer-mark.false

pub returns-in_default-2-clause-none : goal.returns-in_default-2-clause-none
returns-in_default-2-clause-none c =
    no_mark_behind c.args.mark c.count_before-place.result c.args.layers.now (λ lt. none c.get.result c.in_default.is (c.get.ensures.lookup.2 lt)) c.count_before-place.ensures.before
