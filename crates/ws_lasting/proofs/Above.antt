-- Entries in order, walked from each to the first above it.
use Rattle.std.proofs.Common.{◌≡◌, ◌<◌, Bool, true, false, cond, ◌&&◌, List, [], ◌∷◌, ◌++◌, length, T, refl, sym, ap, ◌∙◌, subst, arith}
use Rattle.std.specs.Prelude.{Option, Some, None, filter, find as find_first}
use Rattle.std.specs.declared.cmp.Ordering.{Ordering}
use Rattle.std.specs.declared.cmp.Ordering.TheVariants.{Less, Equal, Greater}
use Rattle.std.specs.Cmp.{IsTotalOrder, tied_itself}
use Rattle.std.specs.Ordering.{is_lt, ordering_reverse}
use Rattle.std.specs.FinMap.Entries.{below_all, by_order, is_sorted, put}

first : (a b : Bool) → T (a && b) → T a
first true b h = tt
first false b h = h

second : (a b : Bool) → T (a && b) → T b
second true b h = h
second false b h = absurd h

less : (o : Ordering) → T (is_lt o) → o ≡ Less
less Less h = refl
less Equal h = absurd h
less Greater h = absurd h

true_less : (o : Ordering) → is_lt o ≡ true → o ≡ Less
true_less Less h = refl
true_less Equal h = cc
true_less Greater h = cc

not_above : {K : Type 0} (R : K → K → Ordering) (o : IsTotalOrder R) (k l : K) → R k l ≡ Less → is_lt (R l k) ≡ false
not_above R o k l h = ap is_lt (o.antisymm l k ∙ ap ordering_reverse h)

module _ {K X : Type 0} (R : K → K → Ordering) where
  -- those above the key
  abbrev pub above : K → List (K × X) → List (K × X)
  above k es = filter (λ e. is_lt (R k e.0)) es

  -- the first of them, if there is one
  abbrev pub first_above : K → List (K × X) → Option (K × X)
  first_above k es = find_first (λ e. is_lt (R k e.0)) es

  pub none_above : (k : K) (es : List (K × X)) → first_above k es ≡ None → above k es ≡ []
  none_above k [] h = refl
  none_above k (e ∷ es) h = by (is_lt (R k e.0)) h (none_above k es)
    where
      by : (b : Bool) → cond b (Some e) (first_above k es) ≡ None → (first_above k es ≡ None → above k es ≡ []) → cond b (e ∷ above k es) (above k es) ≡ []
      by true g rest = cc
      by false g rest = rest g

  module _ (o : IsTotalOrder R) where
    all_above : (k : K) (es : List (K × X)) → T (below_all R k es) → above k es ≡ es
    all_above k [] h = refl
    all_above k (e ∷ es) h = ap (λ r. cond (is_lt r) (e ∷ above k es) (above k es)) (less _ (first _ _ h)) ∙ ap (λ xs. e ∷ xs) (all_above k es (second _ _ h))

    lower : (k l : K) (es : List (K × X)) → R k l ≡ Less → T (below_all R l es) → T (below_all R k es)
    lower k l [] h g = tt
    lower k l (e ∷ es) h g = both _ _ (subst (λ r. T (is_lt r)) (sym (o.trans k l e.0 h (less _ (first _ _ g)))) tt) (lower k l es h (second _ _ g))
      where
        both : (a b : Bool) → T a → T b → T (a && b)
        both true b x y = y
        both false b x y = x

    found_later : (l k : K) (es : List (K × X)) (x : K × X) → T (below_all R l es) → first_above k es ≡ Some x → R l x.0 ≡ Less
    found_later l k [] x h g = cc
    found_later l k (e ∷ es) x h g = by (is_lt (R k e.0)) g (found_later l k es x (second _ _ h))
      where
        by : (b : Bool) → cond b (Some e) (first_above k es) ≡ Some x → (first_above k es ≡ Some x → R l x.0 ≡ Less) → R l x.0 ≡ Less
        by true f rest = let same : e ≡ x = cc in subst (λ y. R l y.0 ≡ Less) same (less _ (first _ _ h))
        by false f rest = rest f

    -- above the first above the key are the others
    pub next_above : (k : K) (es : List (K × X)) (x : K × X) → T (is_sorted R es) → first_above k es ≡ Some x → above k es ≡ x ∷ above x.0 es
    next_above k [] x s h = cc
    next_above k (e ∷ es) x s h = by (is_lt (R k e.0)) refl h (next_above k es x (second _ _ s))
      where
        by : (b : Bool) → is_lt (R k e.0) ≡ b → cond b (Some e) (first_above k es) ≡ Some x → (first_above k es ≡ Some x → above k es ≡ x ∷ above x.0 es)
            → cond b (e ∷ above k es) (above k es) ≡ x ∷ above x.0 (e ∷ es)
        by true l g rest =
            let same : e ≡ x = cc in
            ap (λ xs. e ∷ xs) (all_above k es (lower k e.0 es (true_less _ l) (first _ _ s)) ∙ sym (all_above e.0 es (first _ _ s))
            ∙ sym (ap (λ r. cond (is_lt r) (e ∷ above e.0 es) (above e.0 es)) (tied_itself o e.0)))
            ∙ ap (λ y. y ∷ above y.0 (e ∷ es)) same
        by false l g rest =
            rest g ∙ ap (λ b. x ∷ cond b (e ∷ above x.0 es) (above x.0 es)) (sym (not_above R o e.0 x.0 (found_later e.0 k es x (first _ _ s) g)))

    -- the walk gets shorter
    pub fewer_above : (k : K) (es : List (K × X)) (x : K × X) → T (is_sorted R es) → first_above k es ≡ Some x → length (above x.0 es) < length (above k es)
    fewer_above k es x s h = let step : length (above k es) ≡ length (x ∷ above x.0 es) = ap length (next_above k es x s h) in omega arith

    -- what is above all others is put last
    pub put_last : (es rest : List (K × X)) (k : K) (v : X) → T (is_sorted R (es ++ (k, v) ∷ rest)) → put R k v es ≡ es ++ (k, v) ∷ []
    put_last [] rest k v s = refl
    put_last (e ∷ es) rest k v s =
        ap (λ r. by_order r ((k, v) ∷ e ∷ es) ((e.0, v) ∷ es) (e ∷ put R k v es)) (o.antisymm k e.0 ∙ ap ordering_reverse (at es (first _ _ s)))
        ∙ ap (λ xs. e ∷ xs) (put_last es rest k v (second _ _ s))
      where
        at : (ys : List (K × X)) → T (below_all R e.0 (ys ++ (k, v) ∷ rest)) → R e.0 k ≡ Less
        at [] h = less _ (first _ _ h)
        at (y ∷ ys) h = at ys (second _ _ h)
