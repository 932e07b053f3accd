-- The first record of a project from a command on, and the first above a place.
use Rattle.std.proofs.Common.{◌≡◌, ◌<◌, ℕ, arith, zero, suc, rules, Bool, true, false, cond, T, ◌&&◌, List, [], ◌∷◌, ◌++◌, length, slice_index_or, refl, sym, ap, ◌∙◌, subst}
use Rattle.std.specs.Prelude.{nat_le, take, drop, find as first_that, Option, Some, None, IfSome}
use Rattle.std.specs.Borrow.{Bor}
use Rattle.std.specs.Cmp.{tied_itself}
use Rattle.std.specs.List.{slice_get}
use Rattle.std.specs.Option.{option_copied, option_map}
use Rattle.std.specs.declared.cmp.Ordering.{Ordering}
use Rattle.std.specs.declared.cmp.Ordering.TheVariants.{Less, Equal, Greater}
use Rattle.std.specs.Ordering.{eq_by_cmp, is_eq, is_lt, nat_cmp, ordering_then}
use Rattle.std.specs.FinMap.Entries.{below_all, find}
use Rattle.ws_marks.specs.declared.record.Record.{Record}
use Rattle.ws_marks.specs.Places.{Place, name_cmp, place_cmp, place_of}
use Rattle.ws_marks.specs.Marked.{is_from}
use Rattle.ws_marks.specs.Inside.{AllBelow, InOrder, NoneBelow, placed, starts_in}
use Rattle.ws_marks.proofs.Places.{name_cmp_exact, place_cmp_total, place_cmp_exact}
use Rattle.ws_marks.proofs.Sorted.{no, less, is_equal, is_greater, turned, first, second, tail_order, head_order, order_behind, above_none, found_here}

below_not_from : (p q : List ℕ) (i j : ℕ) → place_cmp (q, j) (p, i) ≡ Less → is_from p i (q, j) ≡ false
below_not_from p q i j e = by (name_cmp q p) e
  where
    past : nat_cmp j i ≡ Less → nat_le i j ≡ false
    past h = search (rules, h)

    by : (o : Ordering) → ordering_then o (nat_cmp j i) ≡ Less → (is_eq o && nat_le i j) ≡ false
    by Less h = refl
    by Equal h = past h
    by Greater h = refl

from_here : (p q : List ℕ) (i j : ℕ) → is_lt (place_cmp (q, j) (p, i)) ≡ false → eq_by_cmp name_cmp q p ≡ true → is_from p i (q, j) ≡ true
from_here p q i j nb e = by (name_cmp q p) nb e
  where
    at_least : is_lt (nat_cmp j i) ≡ false → nat_le i j ≡ true
    at_least h = search (rules, h)

    by : (o : Ordering) → is_lt (ordering_then o (nat_cmp j i)) ≡ false → is_eq o ≡ true → (is_eq o && nat_le i j) ≡ true
    by Less n h = absurd (no (sym h))
    by Equal n h = at_least n
    by Greater n h = absurd (no (sym h))

past_name : (o s : Ordering) → is_lt (ordering_then o s) ≡ false → is_eq o ≡ false → o ≡ Greater
past_name Less s n h = absurd (no n)
past_name Equal s n h = absurd (no h)
past_name Greater s n h = refl

-- a project's commands stand together
other_project : (p q r : List ℕ) (i j k : ℕ) → is_lt (place_cmp (q, j) (p, i)) ≡ false → eq_by_cmp name_cmp q p ≡ false → place_cmp (q, j) (r, k) ≡ Less → is_from p i (r, k) ≡ false
other_project p q r i j k nb e lt = by (eq_by_cmp name_cmp r p) refl
  where
    not : Greater ≡ Less → ⊥
    not h = cc

    clash : r ≡ p → ⊥
    clash same = not (sym (ap (λ o. ordering_then o (nat_cmp j k)) (ap (name_cmp q) same ∙ past_name (name_cmp q p) (nat_cmp j i) nb e)) ∙ lt)

    by : (b : Bool) → eq_by_cmp name_cmp r p ≡ b → (b && nat_le i k) ≡ false
    by true h = absurd (clash (name_cmp_exact r p (is_equal _ h)))
    by false h = refl

module _ {M : Type 0} (p : List ℕ) (i : ℕ) where
  none_later : (r : Record M) (rs : List (Record M)) → is_lt (place_cmp (place_of r) (p, i)) ≡ false → eq_by_cmp name_cmp r.project p ≡ false → T (below_all place_cmp (place_of r) (placed rs))
      → first_that (λ e. is_from p i e.0) (placed rs) ≡ None
  none_later r [] nb e b = refl
  none_later r (x ∷ xs) nb e b =
      ap (λ t. cond t (Some (place_of x, x)) (first_that (λ e. is_from p i e.0) (placed xs))) (other_project p r.project x.project i r.index x.index nb e (less _ (first _ _ b)))
      ∙ none_later r xs nb e (second (is_lt (place_cmp (place_of r) (place_of x))) _ b)

  skipped : (r : Record M) (rs : List (Record M)) → place_cmp (place_of r) (p, i) ≡ Less → first_that (λ e. is_from p i e.0) (placed (r ∷ rs)) ≡ first_that (λ e. is_from p i e.0) (placed rs)
  skipped r rs lt = ap (λ t. cond t (Some (place_of r, r)) (first_that (λ e. is_from p i e.0) (placed rs))) (below_not_from p r.project i r.index lt)

  pub first_found : (rs : List (Record M)) (n : ℕ) (d : Record M) → AllBelow (p, i) (take n rs) → NoneBelow (p, i) (drop n rs) → starts_in p (drop n rs) ≡ true
      → option_map (λ e. e.1) (first_that (λ e. is_from p i e.0) (placed rs)) ≡ Some (slice_index_or rs n d)
  first_found [] zero d b nb e = absurd (no (sym e))
  first_found [] (suc n) d b nb e = absurd (no (sym e))
  first_found (r ∷ rs) zero d b nb e =
      ap (λ t. option_map (λ e. e.1) (cond t (Some (place_of r, r)) (first_that (λ e. is_from p i e.0) (placed rs)))) (from_here p r.project i r.index nb.0 e)
  first_found (r ∷ rs) (suc n) d b nb e = ap (option_map (λ e. e.1)) (skipped r rs b.0) ∙ first_found rs n d b.1 nb e

  pub first_none : (rs : List (Record M)) (n : ℕ) → InOrder rs → AllBelow (p, i) (take n rs) → NoneBelow (p, i) (drop n rs) → starts_in p (drop n rs) ≡ false
      → first_that (λ e. is_from p i e.0) (placed rs) ≡ None
  first_none [] n s b nb e = refl
  first_none (r ∷ rs) zero s b nb e =
      ap (λ t. cond t (Some (place_of r, r)) (first_that (λ e. is_from p i e.0) (placed rs))) (ap (λ t. t && nat_le i r.index) e) ∙ none_later r rs nb.0 e (head_order r rs s)
  first_none (r ∷ rs) (suc n) s b nb e = skipped r rs b.0 ∙ first_none rs n (tail_order r rs s) b.1 nb e

  pub in_length : (rs : List (Record M)) (n : ℕ) → starts_in p (drop n rs) ≡ true → n < length rs
  in_length [] zero e = absurd (no (sym e))
  in_length [] (suc n) e = absurd (no (sym e))
  in_length (r ∷ rs) zero e = omega arith
  in_length (r ∷ rs) (suc n) e = let lt = in_length rs n e in omega (arith, lt)

-- ---- the first above a place

module _ {M : Type 0} (k : Place) where
  passed : (front rest : List (Record M)) → AllBelow k front → first_that (λ e. is_lt (place_cmp k e.0)) (placed (front ++ rest)) ≡ first_that (λ e. is_lt (place_cmp k e.0)) (placed rest)
  passed [] rest b = refl
  passed (r ∷ front) rest b =
      ap (λ o. cond (is_lt o) (Some (place_of r, r)) (first_that (λ e. is_lt (place_cmp k e.0)) (placed (front ++ rest)))) (turned (place_of r) k Less b.0) ∙ passed front rest b.1

  no_more : (rs : List (Record M)) → length rs ≡ 0 → rs ≡ []
  no_more [] e = refl
  no_more (r ∷ rs) e = absurd (omega (arith, e))

  pub above_end : (rs front rest : List (Record M)) → rs ≡ front ++ rest → AllBelow k front → length rest ≡ 0 → option_map (λ e. e.1) (first_that (λ e. is_lt (place_cmp k e.0)) (placed rs)) ≡ None
  above_end rs front rest is b e =
      ap (λ xs. option_map (λ e. e.1) (first_that (λ e. is_lt (place_cmp k e.0)) (placed xs))) is ∙ ap (option_map (λ e. e.1)) (passed front rest b)
      ∙ ap (λ xs. option_map (λ e. e.1) (first_that (λ e. is_lt (place_cmp k e.0)) (placed xs))) (no_more rest e)

  pub above_here : (rs front others : List (Record M)) (r : Record M) → rs ≡ front ++ r ∷ others → AllBelow k front → is_lt (place_cmp (place_of r) k) ≡ false → is_eq (place_cmp (place_of r) k) ≡ false
      → option_map (λ e. e.1) (first_that (λ e. is_lt (place_cmp k e.0)) (placed rs)) ≡ Some r
  above_here rs front others r is b nb e =
      ap (λ xs. option_map (λ e. e.1) (first_that (λ e. is_lt (place_cmp k e.0)) (placed xs))) is ∙ ap (option_map (λ e. e.1)) (passed front (r ∷ others) b)
      ∙ ap (λ o. option_map (λ e. e.1) (cond (is_lt o) (Some (place_of r, r)) (first_that (λ e. is_lt (place_cmp k e.0)) (placed others)))) (turned (place_of r) k Greater (is_greater _ nb e))

  pub above_second : (rs front others : List (Record M)) (r : Record M) → InOrder rs → rs ≡ front ++ r ∷ others → AllBelow k front → is_eq (place_cmp (place_of r) k) ≡ true
      → option_map (λ e. e.1) (first_that (λ e. is_lt (place_cmp k e.0)) (placed rs)) ≡ slice_get others 0
  above_second rs front others r s is b e =
      ap (λ xs. option_map (λ e. e.1) (first_that (λ e. is_lt (place_cmp k e.0)) (placed xs))) is ∙ ap (option_map (λ e. e.1)) (passed front (r ∷ others) b)
      ∙ ap (λ o. option_map (λ e. e.1) (cond (is_lt o) (Some (place_of r, r)) (first_that (λ e. is_lt (place_cmp k e.0)) (placed others)))) (turned (place_of r) k Equal (is_equal _ e))
      ∙ by others (head_order r others (order_behind front (r ∷ others) (subst InOrder is s)))
    where
      by : (xs : List (Record M)) → T (below_all place_cmp (place_of r) (placed xs)) → option_map (λ e. e.1) (first_that (λ e. is_lt (place_cmp k e.0)) (placed xs)) ≡ slice_get xs 0
      by [] b = refl
      by (x ∷ xs) b =
          ap (λ o. option_map (λ e. e.1) (cond (is_lt o) (Some (place_of x, x)) (first_that (λ e. is_lt (place_cmp k e.0)) (placed xs))))
          (ap (λ q. place_cmp q (place_of x)) (sym (place_cmp_exact (place_of r) k (is_equal _ e))) ∙ less _ (first _ _ b))

-- ---- what is found stands at its place

module _ {M : Type 0} (P : Place → Bool) where
  pub found_own : (rs : List (Record M)) (r : Record M) → InOrder rs → option_map (λ e. e.1) (first_that (λ e. P e.0) (placed rs)) ≡ Some r → find place_cmp (place_of r) (placed rs) ≡ Some r
  found_own [] r s e = cc
  found_own (x ∷ xs) r s is = by (P (place_of x)) (found_own xs r (tail_order x xs s)) is
    where
      itself : place_cmp (place_of x) (place_of x) ≡ Equal
      itself = tied_itself place_cmp_total (place_of x)

      not : {X : Type 0} (o : X) → Some o ≡ None → ⊥
      not o h = cc

      same : Some x ≡ Some r → x ≡ r
      same h = cc

      later : (b : Bool) → eq_by_cmp place_cmp (place_of r) (place_of x) ≡ b → find place_cmp (place_of r) (placed xs) ≡ Some r → cond b (Some x) (find place_cmp (place_of r) (placed xs)) ≡ Some r
      later true t h = absurd (not r (sym h ∙ ap (λ q. find place_cmp q (placed xs)) (place_cmp_exact _ _ (is_equal _ t)) ∙ above_none (place_of x) xs (head_order x xs s)))
      later false t h = h

      by : (b : Bool) → (option_map (λ e. e.1) (first_that (λ e. P e.0) (placed xs)) ≡ Some r → find place_cmp (place_of r) (placed xs) ≡ Some r)
          → option_map (λ e. e.1) (cond b (Some (place_of x, x)) (first_that (λ e. P e.0) (placed xs))) ≡ Some r → find place_cmp (place_of r) (placed (x ∷ xs)) ≡ Some r
      by true rest e = subst (λ y. find place_cmp (place_of y) (placed (x ∷ xs)) ≡ Some y) (same e) (found_here (place_of x) x xs itself)
      by false rest e = later (eq_by_cmp place_cmp (place_of r) (place_of x)) refl (rest e)

pub shown_own : {X : Type 0} (G : X → Type 0) (o : Option (Bor X)) (x : Option X) → option_copied o ≡ x → ((y : X) → x ≡ Some y → G y) → IfSome o (λ b. G b.now)
shown_own G None x e h = tt
shown_own G (Some b) x e h = h b.now (sym e)

-- what is found passes the test
pub found_passes : {M : Type 0} (P : Place → Bool) (rs : List (Record M)) (r : Record M) → option_map (λ e. e.1) (first_that (λ e. P e.0) (placed rs)) ≡ Some r → P (place_of r) ≡ true
found_passes P [] r e = cc
found_passes {M} P (x ∷ xs) r is = by (P (place_of x)) refl (found_passes P xs r) is
  where
    same : (a b : Record M) → ◌≡◌ {A = Option (Record M)} (Some a) (Some b) → a ≡ b
    same a b h = cc

    by : (b : Bool) → P (place_of x) ≡ b → (option_map (λ e. e.1) (first_that (λ e. P e.0) (placed xs)) ≡ Some r → P (place_of r) ≡ true)
        → option_map (λ e. e.1) (cond b (Some (place_of x, x)) (first_that (λ e. P e.0) (placed xs))) ≡ Some r → P (place_of r) ≡ true
    by true e later h = ap (λ (y : Record M). P (place_of y)) (sym (same x r h)) ∙ e
    by false e later h = later h

pub given_own : {X : Type 0} (G : X → Type 0) (o x : Option X) → o ≡ x → ((y : X) → x ≡ Some y → G y) → IfSome o G
given_own G None x e h = tt
given_own G (Some y) x e h = h y (sym e)
