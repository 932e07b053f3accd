-- Records in the order of their places, cut at a place.
use Rattle.std.proofs.Common.{◌≡◌, ◌<◌, ◌≤◌, ℕ, zero, suc, arith, Bool, true, false, cond, T, ◌&&◌, List, [], ◌∷◌, ◌++◌, length, slice_index_or, slice_set, refl, sym, ap, ◌∙◌}
use Rattle.std.specs.Prelude.{take, drop, Some, None}
use Rattle.std.specs.declared.cmp.Ordering.{Ordering}
use Rattle.std.specs.declared.cmp.Ordering.TheVariants.{Less, Equal, Greater}
use Rattle.std.specs.Ordering.{eq_by_cmp, is_eq, is_lt, ordering_reverse}
use Rattle.std.specs.FinMap.Entries.{by_order, below_all, find, put}
use Rattle.std.specs.List.{AllByRecursion, AllWithin}
use Rattle.std.specs.List.Sorted.{IsPartitionedBy}
use Rattle.ws_marks.specs.declared.record.Record.{Record}
use Rattle.ws_marks.specs.Places.{Place, place_cmp, place_of}
use Rattle.ws_marks.specs.Inside.{AllBelow, InOrder, NoneBelow, placed, starts_at}
use Rattle.ws_marks.proofs.Places.{place_cmp_total, place_cmp_exact}

pub first : (a b : Bool) → T (a && b) → T a
first true b h = tt
first false b h = h

pub second : (a b : Bool) → T (a && b) → T b
second true b h = h
second false b h = absurd h

both : (a b : Bool) → T a → T b → T (a && b)
both true b h g = g
both false b h g = h

pub no : true ≡ false → ⊥
no e = cc

pub less : (o : Ordering) → T (is_lt o) → o ≡ Less
less Less h = refl
less Equal h = absurd h
less Greater h = absurd h

pub is_less : (o : Ordering) → is_lt o ≡ true → o ≡ Less
is_less Less e = refl
is_less Equal e = absurd (no (sym e))
is_less Greater e = absurd (no (sym e))

pub is_equal : (o : Ordering) → is_eq o ≡ true → o ≡ Equal
is_equal Less e = absurd (no (sym e))
is_equal Equal e = refl
is_equal Greater e = absurd (no (sym e))

pub is_greater : (o : Ordering) → is_lt o ≡ false → is_eq o ≡ false → o ≡ Greater
is_greater Less a b = absurd (no a)
is_greater Equal a b = absurd (no b)
is_greater Greater a b = refl

-- how the place stands, seen from the other side
pub turned : (a b : Place) (o : Ordering) → place_cmp a b ≡ o → place_cmp b a ≡ ordering_reverse o
turned a b o e = place_cmp_total.antisymm b a ∙ ap ordering_reverse e

module _ {X : Type 0} (P : X → Type 0) where
  all_taken : (i : ℕ) (xs : List X) → i ≤ length xs → ((k : ℕ) (d : X) → k < i → P (slice_index_or xs k d)) → AllByRecursion P (take i xs)
  all_taken zero xs le h = tt
  all_taken (suc i) [] le h = absurd (omega (arith, le))
  all_taken (suc i) (x ∷ xs) le h = (h 0 x (omega arith), all_taken i xs (omega (arith, le)) (λ k d a. h (suc k) d (omega (arith, a))))

  all_dropped : (i : ℕ) (xs : List X) → ((k : ℕ) (d : X) → i ≤ k → k < length xs → P (slice_index_or xs k d)) → AllByRecursion P (drop i xs)
  all_dropped zero [] h = tt
  all_dropped zero (x ∷ xs) h = (h 0 x (omega arith) (omega arith), all_dropped zero xs (λ k d a b. h (suc k) d (omega arith) (omega (arith, b))))
  all_dropped (suc i) [] h = tt
  all_dropped (suc i) (x ∷ xs) h = all_dropped i xs (λ k d a b. h (suc k) d (omega (arith, a)) (omega (arith, b)))

pub cut_parts : {X : Type 0} (i : ℕ) (xs : List X) → xs ≡ take i xs ++ drop i xs
cut_parts zero [] = refl
cut_parts zero (x ∷ xs) = refl
cut_parts (suc i) [] = refl
cut_parts (suc i) (x ∷ xs) = ap (λ ys. x ∷ ys) (cut_parts i xs)

module _ {M : Type 0} where
  pub tail_order : (r : Record M) (rs : List (Record M)) → InOrder (r ∷ rs) → InOrder rs
  tail_order r rs s = second (below_all place_cmp (place_of r) (placed rs)) _ s

  pub head_order : (r : Record M) (rs : List (Record M)) → InOrder (r ∷ rs) → T (below_all place_cmp (place_of r) (placed rs))
  head_order r rs s = first (below_all place_cmp (place_of r) (placed rs)) _ s

  -- ---- where a bisection ends

  pub below_at : (k : Place) (rs : List (Record M)) → T (below_all place_cmp k (placed rs)) → (j : ℕ) (d : Record M) → j < length rs → place_cmp k (place_of (slice_index_or rs j d)) ≡ Less
  below_at k [] b j d lt = absurd (omega (arith, lt))
  below_at k (r ∷ rs) b zero d lt = less _ (first _ _ b)
  below_at k (r ∷ rs) b (suc j) d lt = below_at k rs (second (is_lt (place_cmp k (place_of r))) _ b) j d (omega (arith, lt))

  pub parted : (k : Place) (rs : List (Record M)) → InOrder rs → IsPartitionedBy (λ r. is_lt (place_cmp (place_of r) k)) rs
  parted k [] s i j d le lt h = absurd (omega (arith, lt))
  parted k (r ∷ rs) s zero zero d le lt h = h
  parted k (r ∷ rs) s zero (suc j) d le lt h =
      ap is_lt (place_cmp_total.trans (place_of r) _ k (below_at (place_of r) rs (head_order r rs s) j d (omega (arith, lt))) (is_less _ h))
  parted k (r ∷ rs) s (suc i) zero d le lt h = absurd (omega (arith, le))
  parted k (r ∷ rs) s (suc i) (suc j) d le lt h = parted k rs (tail_order r rs s) i j d (omega (arith, le)) (omega (arith, lt)) h

  pub below_before : (k : Place) (rs : List (Record M)) (i : ℕ) → i ≤ length rs → AllWithin (λ r. is_lt (place_cmp (place_of r) k) ≡ true) rs 0 i → AllBelow k (take i rs)
  below_before k rs i le h = all_taken (λ r. place_cmp (place_of r) k ≡ Less) i rs le (λ j d a. is_less _ (h j d (omega arith) a))

  pub none_after : (k : Place) (rs : List (Record M)) (i : ℕ) → AllWithin (λ r. is_lt (place_cmp (place_of r) k) ≡ false) rs i (length rs) → NoneBelow k (drop i rs)
  none_after k rs i h = all_dropped (λ r. is_lt (place_cmp (place_of r) k) ≡ false) i rs (λ j d a b. h j d a b)

  -- ---- what is found

  none_above : (k : Place) (r : Record M) (rs : List (Record M)) → place_cmp k (place_of r) ≡ Less → T (below_all place_cmp (place_of r) (placed rs)) → find place_cmp k (placed rs) ≡ None
  none_above k r [] lt b = refl
  none_above k r (x ∷ xs) lt b =
      ap (λ o. cond (is_eq o) (Some x) (find place_cmp k (placed xs))) (place_cmp_total.trans k (place_of r) (place_of x) lt (less _ (first _ _ b)))
      ∙ none_above k r xs lt (second (is_lt (place_cmp (place_of r) (place_of x))) _ b)

  pub found_here : (k : Place) (r : Record M) (rs : List (Record M)) → place_cmp (place_of r) k ≡ Equal → find place_cmp k (placed (r ∷ rs)) ≡ Some r
  found_here k r rs e = ap (λ o. cond (is_eq o) (Some r) (find place_cmp k (placed rs))) (turned (place_of r) k Equal e)

  not_here : (k : Place) (r : Record M) (rs : List (Record M)) → InOrder (r ∷ rs) → place_cmp (place_of r) k ≡ Greater → find place_cmp k (placed (r ∷ rs)) ≡ None
  not_here k r rs s e =
      ap (λ o. cond (is_eq o) (Some r) (find place_cmp k (placed rs))) (turned (place_of r) k Greater e) ∙ none_above k r rs (turned (place_of r) k Greater e) (head_order r rs s)

  find_step : (k : Place) (r : Record M) (rs : List (Record M)) → place_cmp (place_of r) k ≡ Less → find place_cmp k (placed (r ∷ rs)) ≡ find place_cmp k (placed rs)
  find_step k r rs e = ap (λ o. cond (is_eq o) (Some r) (find place_cmp k (placed rs))) (turned (place_of r) k Less e)

  pub find_behind : (k : Place) (front rest : List (Record M)) → AllBelow k front → find place_cmp k (placed (front ++ rest)) ≡ find place_cmp k (placed rest)
  find_behind k [] rest b = refl
  find_behind k (r ∷ front) rest b = find_step k r (front ++ rest) b.0 ∙ find_behind k front rest b.1

  pub order_behind : (front rest : List (Record M)) → InOrder (front ++ rest) → InOrder rest
  order_behind [] rest s = s
  order_behind (r ∷ front) rest s = order_behind front rest (tail_order r (front ++ rest) s)

  pub found_first : (k : Place) (front rs : List (Record M)) (r : Record M) → AllBelow k front → is_eq (place_cmp (place_of r) k) ≡ true → find place_cmp k (placed (front ++ r ∷ rs)) ≡ Some r
  found_first k front rs r b e = find_behind k front (r ∷ rs) b ∙ found_here k r rs (is_equal _ e)

  pub found_none : (k : Place) (front rs : List (Record M)) (r : Record M) → InOrder (front ++ r ∷ rs) → AllBelow k front → is_lt (place_cmp (place_of r) k) ≡ false → is_eq (place_cmp (place_of r) k) ≡ false
      → find place_cmp k (placed (front ++ r ∷ rs)) ≡ None
  found_none k front rs r s b nb e = find_behind k front (r ∷ rs) b ∙ not_here k r rs (order_behind front (r ∷ rs) s) (is_greater _ nb e)

  no_more : (rs : List (Record M)) → length rs ≡ 0 → rs ≡ []
  no_more [] e = refl
  no_more (r ∷ rs) e = absurd (omega (arith, e))

  pub found_end : (k : Place) (rs front rest : List (Record M)) → rs ≡ front ++ rest → AllBelow k front → length rest ≡ 0 → find place_cmp k (placed rs) ≡ None
  found_end k rs front rest is b e = ap (λ xs. find place_cmp k (placed xs)) is ∙ find_behind k front rest b ∙ ap (λ xs. find place_cmp k (placed xs)) (no_more rest e)

  -- ---- one is put

  put_step : (k : Place) (v r : Record M) (rs : List (Record M)) → place_cmp (place_of r) k ≡ Less → put place_cmp k v (placed (r ∷ rs)) ≡ (place_of r, r) ∷ put place_cmp k v (placed rs)
  put_step k v r rs e =
      ap (λ o. by_order o ((k, v) ∷ placed (r ∷ rs)) ((place_of r, v) ∷ placed rs) ((place_of r, r) ∷ put place_cmp k v (placed rs))) (turned (place_of r) k Less e)

  pub put_over : (rs : List (Record M)) (n : ℕ) (v : Record M) → AllBelow (place_of v) (take n rs) → starts_at (place_of v) (drop n rs) ≡ true
      → placed (slice_set rs n v) ≡ put place_cmp (place_of v) v (placed rs)
  put_over [] zero v b e = absurd (no (sym e))
  put_over [] (suc n) v b e = absurd (no (sym e))
  put_over (r ∷ rs) zero v b e =
      let same = is_equal (place_cmp (place_of r) (place_of v)) e in
      ap (λ p. (p, v) ∷ placed rs) (sym (place_cmp_exact _ _ same))
      ∙ sym (ap (λ o. by_order o ((place_of v, v) ∷ placed (r ∷ rs)) ((place_of r, v) ∷ placed rs) ((place_of r, r) ∷ put place_cmp (place_of v) v (placed rs))) (turned (place_of r) (place_of v) Equal same))
  put_over (r ∷ rs) (suc n) v b e = ap (λ es. (place_of r, r) ∷ es) (put_over rs n v b.1 e) ∙ sym (put_step (place_of v) v r rs b.0)

  pub over_found : (rs : List (Record M)) (n : ℕ) (v : Record M) → AllBelow (place_of v) (take n rs) → starts_at (place_of v) (drop n rs) ≡ true
      → Some (slice_index_or rs n v) ≡ find place_cmp (place_of v) (placed rs)
  over_found [] zero v b e = absurd (no (sym e))
  over_found [] (suc n) v b e = absurd (no (sym e))
  over_found (r ∷ rs) zero v b e = sym (found_here (place_of v) r rs (is_equal _ e))
  over_found (r ∷ rs) (suc n) v b e = over_found rs n v b.1 e ∙ sym (find_step (place_of v) r rs b.0)

  pub over_found_at : (k : Place) (rs : List (Record M)) (n : ℕ) (d : Record M) → AllBelow k (take n rs) → starts_at k (drop n rs) ≡ true → Some (slice_index_or rs n d) ≡ find place_cmp k (placed rs)
  over_found_at k [] zero d b e = absurd (no (sym e))
  over_found_at k [] (suc n) d b e = absurd (no (sym e))
  over_found_at k (r ∷ rs) zero d b e = sym (found_here k r rs (is_equal _ e))
  over_found_at k (r ∷ rs) (suc n) d b e = over_found_at k rs n d b.1 e ∙ sym (find_step k r rs b.0)

  pub over_place : (k : Place) (rs : List (Record M)) (n : ℕ) (d : Record M) → starts_at k (drop n rs) ≡ true → place_of (slice_index_or rs n d) ≡ k
  over_place k [] zero d e = absurd (no (sym e))
  over_place k [] (suc n) d e = absurd (no (sym e))
  over_place k (r ∷ rs) zero d e = place_cmp_exact _ _ (is_equal _ e)
  over_place k (r ∷ rs) (suc n) d e = over_place k rs n d e

  pub over_there : (k : Place) (rs : List (Record M)) (n : ℕ) → starts_at k (drop n rs) ≡ true → n < length rs
  over_there k [] zero e = absurd (no (sym e))
  over_there k [] (suc n) e = absurd (no (sym e))
  over_there k (r ∷ rs) zero e = omega arith
  over_there k (r ∷ rs) (suc n) e = let lt = over_there k rs n e in omega (arith, lt)

  pub put_new : (rs : List (Record M)) (n : ℕ) (v : Record M) → AllBelow (place_of v) (take n rs) → NoneBelow (place_of v) (drop n rs) → starts_at (place_of v) (drop n rs) ≡ false
      → placed (take n rs ++ v ∷ drop n rs) ≡ put place_cmp (place_of v) v (placed rs)
  put_new [] zero v b nb e = refl
  put_new [] (suc n) v b nb e = refl
  put_new (r ∷ rs) zero v b nb e =
      sym (ap (λ o. by_order o ((place_of v, v) ∷ placed (r ∷ rs)) ((place_of r, v) ∷ placed rs) ((place_of r, r) ∷ put place_cmp (place_of v) v (placed rs)))
      (turned (place_of r) (place_of v) Greater (is_greater _ nb.0 e)))
  put_new (r ∷ rs) (suc n) v b nb e = ap (λ es. (place_of r, r) ∷ es) (put_new rs n v b.1 nb e) ∙ sym (put_step (place_of v) v r rs b.0)

  pub new_none : (rs : List (Record M)) (n : ℕ) (k : Place) → InOrder rs → AllBelow k (take n rs) → NoneBelow k (drop n rs) → starts_at k (drop n rs) ≡ false → find place_cmp k (placed rs) ≡ None
  new_none [] n k s b nb e = refl
  new_none (r ∷ rs) zero k s b nb e = not_here k r rs s (is_greater _ nb.0 e)
  new_none (r ∷ rs) (suc n) k s b nb e = find_step k r rs b.0 ∙ new_none rs n k (tail_order r rs s) b.1 nb e

  -- ---- one is taken

  pub above_none : (k : Place) (rs : List (Record M)) → T (below_all place_cmp k (placed rs)) → find place_cmp k (placed rs) ≡ None
  above_none k [] b = refl
  above_none k (r ∷ rs) b =
      ap (λ o. cond (is_eq o) (Some r) (find place_cmp k (placed rs))) (less _ (first _ _ b)) ∙ above_none k rs (second (is_lt (place_cmp k (place_of r))) _ b)

  below_removed : (k : Place) (rs : List (Record M)) (n : ℕ) → T (below_all place_cmp k (placed rs)) → T (below_all place_cmp k (placed (take n rs ++ drop (suc n) rs)))
  below_removed k [] zero b = tt
  below_removed k [] (suc n) b = tt
  below_removed k (r ∷ rs) zero b = second (is_lt (place_cmp k (place_of r))) _ b
  below_removed k (r ∷ rs) (suc n) b = both _ _ (first (is_lt (place_cmp k (place_of r))) _ b) (below_removed k rs n (second (is_lt (place_cmp k (place_of r))) _ b))

  pub removed_order : (rs : List (Record M)) (n : ℕ) → InOrder rs → InOrder (take n rs ++ drop (suc n) rs)
  removed_order [] zero s = tt
  removed_order [] (suc n) s = tt
  removed_order (r ∷ rs) zero s = tail_order r rs s
  removed_order (r ∷ rs) (suc n) s = both _ _ (below_removed (place_of r) rs n (head_order r rs s)) (removed_order rs n (tail_order r rs s))

  pub removed_find : (rs : List (Record M)) (n : ℕ) (d : Record M) → InOrder rs → n < length rs → (q : Place)
      → find place_cmp q (placed (take n rs ++ drop (suc n) rs)) ≡ cond (eq_by_cmp place_cmp q (place_of (slice_index_or rs n d))) None (find place_cmp q (placed rs))
  removed_find [] n d s lt q = absurd (omega (arith, lt))
  removed_find (r ∷ rs) zero d s lt q = by (eq_by_cmp place_cmp q (place_of r)) refl
    where
      by : (b : Bool) → eq_by_cmp place_cmp q (place_of r) ≡ b → find place_cmp q (placed rs) ≡ cond b None (cond b (Some r) (find place_cmp q (placed rs)))
      by true e = ap (λ k. find place_cmp k (placed rs)) (place_cmp_exact q (place_of r) (is_equal _ e)) ∙ above_none (place_of r) rs (head_order r rs s)
      by false e = refl
  removed_find (r ∷ rs) (suc n) d s lt q = by (eq_by_cmp place_cmp q (place_of r)) refl (removed_find rs n d (tail_order r rs s) (omega (arith, lt)) q)
    where
      k : Place
      k = place_of (slice_index_or rs n d)

      by : (b : Bool) → eq_by_cmp place_cmp q (place_of r) ≡ b → find place_cmp q (placed (take n rs ++ drop (suc n) rs)) ≡ cond (eq_by_cmp place_cmp q k) None (find place_cmp q (placed rs))
          → cond b (Some r) (find place_cmp q (placed (take n rs ++ drop (suc n) rs))) ≡ cond (eq_by_cmp place_cmp q k) None (cond b (Some r) (find place_cmp q (placed rs)))
      by true e h =
          let same : q ≡ place_of r = place_cmp_exact q (place_of r) (is_equal _ e) in
          sym (ap (λ o. cond (is_eq o) None (Some r)) (ap (λ p. place_cmp p k) same ∙ below_at (place_of r) rs (head_order r rs s) n d (omega (arith, lt))))
      by false e h = h
