-- The map that records in order make.
use Rattle.std.proofs.Common.{◌≡◌, ◌<◌, ℕ, suc, Bool, true, false, cond, T, List, [], ◌∷◌, ◌++◌, map, length, slice_index_or, refl, sym, ap, ◌∙◌, subst}
use Rattle.std.specs.Prelude.{Result, Ok, Err, OnOk, OnErr, Some, None, take, drop, find as first_that}
use Rattle.std.specs.Option.{option_map}
use Rattle.std.specs.Ordering.{eq_by_cmp}
use Rattle.std.specs.FinMap.{empty, insert, entries, from_sorted, entries-from_sorted, entries-insert, get, remove, get-empty, get-from_sorted, get-remove, same_entries_map, same_map, values}
use Rattle.std.specs.FinMap.Entries.{find, is_sorted, is_sorted-put, put}
use Rattle.ws_marks.specs.declared.record.Record.{Record}
use Rattle.ws_marks.specs.Places.{Place, Records, place_cmp, place_of}
use Rattle.ws_marks.specs.Inside.{InOrder, placed}
use Rattle.ws_marks.proofs.Firsts.{found_own}
use Rattle.ws_marks.proofs.Sorted.{is_equal, removed_find, removed_order}
use Rattle.ws_marks.proofs.Places.{place_cmp_total, place_cmp_exact}

pub none_is : {M : Type 0} → from_sorted {R = place_cmp} (placed {M = M} []) ≡ empty
none_is {M} = same_map place_cmp_total place_cmp_exact _ _ (λ q. get-from_sorted {X = Record M} place_cmp [] q tt ∙ sym (get-empty place_cmp q))

ordered : {M : Type 0} (k : Place) (v : Record M) (old new : List (Record M)) → InOrder old → placed new ≡ put place_cmp k v (placed old) → InOrder new
ordered k v old new s h = subst (λ es. T (is_sorted place_cmp es)) (sym h) (is_sorted-put place_cmp place_cmp_total k v (placed old) s)

module _ {M A E : Type 0} (k : Place) (v : Record M) (old new : List (Record M)) (s : InOrder old) where
  pub put_order : (r : Result A E) → OnOk r (placed new ≡ put place_cmp k v (placed old)) → OnErr r (new ≡ old) → InOrder new
  put_order (Ok x) ok err = ordered k v old new s ok
  put_order (Err e) ok err = subst InOrder (sym err) s

  pub put_is : (r : Result A E) → OnOk r (placed new ≡ put place_cmp k v (placed old)) → OnOk r (from_sorted {R = place_cmp} (placed new) ≡ insert (from_sorted (placed old)) k v)
  put_is (Ok x) ok =
      same_entries_map _ _ (entries-from_sorted place_cmp (placed new) (ordered k v old new s ok) ∙ ok ∙ ap (put place_cmp k v) (sym (entries-from_sorted place_cmp (placed old) s))
      ∙ sym (entries-insert place_cmp_total (from_sorted (placed old)) k v))
  put_is (Err e) ok = tt

-- one is taken
pub removed_is : {M : Type 0} (rs new : List (Record M)) (n : ℕ) (r : Record M) → InOrder rs → n < length rs → new ≡ take n rs ++ drop (suc n) rs → r ≡ slice_index_or rs n r
    → from_sorted {R = place_cmp} (placed new) ≡ remove (from_sorted (placed rs)) (place_of r)
removed_is rs new n r s lt is at = ap (λ xs. from_sorted {R = place_cmp} (placed xs)) is
    ∙ same_map place_cmp_total place_cmp_exact _ _ (λ q.
    get-from_sorted place_cmp (placed (take n rs ++ drop (suc n) rs)) q (removed_order rs n s) ∙ removed_find rs n r s lt q
    ∙ ap (λ x. cond (eq_by_cmp place_cmp q (place_of x)) None (find place_cmp q (placed rs))) (sym at)
    ∙ sym (get-remove place_cmp_total (from_sorted (placed rs)) (place_of r) q ∙ ap (cond (eq_by_cmp place_cmp q (place_of r)) None) (get-from_sorted place_cmp (placed rs) q s)))

-- the entries are the records, each at its place
pub all_shown : {M : Type 0} (rs : List (Record M)) → InOrder rs → placed rs ≡ entries (from_sorted {R = place_cmp} (placed rs))
all_shown rs s = sym (entries-from_sorted place_cmp (placed rs) s)

alone : {M : Type 0} (rs : List (Record M)) → rs ≡ map (λ e. e.1) (placed rs)
alone [] = refl
alone (r ∷ rs) = ap (λ xs. r ∷ xs) (alone rs)

-- so the values are the records
pub all_listed : {M : Type 0} (rs : List (Record M)) (m : Records M) → InOrder rs → from_sorted {R = place_cmp} (placed rs) ≡ m → rs ≡ values m
all_listed {M} rs m s is = alone rs ∙ ap (λ es. map (λ e. e.1) es) (all_shown rs s) ∙ ap (λ (x : Records M). values x) is

pub own_shown : {M : Type 0} (P : Place → Bool) (rs : List (Record M)) (m : Records M) → InOrder rs → from_sorted {R = place_cmp} (placed rs) ≡ m
    → (r : Record M) → option_map (λ e. e.1) (first_that (λ e. P e.0) (placed rs)) ≡ Some r → get m (place_of r) ≡ Some r
own_shown P rs m s is r e = ap (λ (n : Records _). get n (place_of r)) (sym is) ∙ get-from_sorted place_cmp (placed rs) (place_of r) s ∙ found_own P rs r s e

-- taking what isn't there leaves all as it is
pub none_removed : {M : Type 0} (m : Records M) (k : Place) → get m k ≡ None → m ≡ remove m k
none_removed m k none = same_map place_cmp_total place_cmp_exact _ _ (λ q. by q (eq_by_cmp place_cmp q k) refl ∙ sym (get-remove place_cmp_total m k q))
  where
    by : (q : Place) (b : Bool) → eq_by_cmp place_cmp q k ≡ b → get m q ≡ cond (eq_by_cmp place_cmp q k) None (get m q)
    by q true e = ap (get m) (place_cmp_exact q k (is_equal _ e)) ∙ none ∙ ap (λ b. cond b None (get m q)) (sym e)
    by q false e = ap (λ b. cond b None (get m q)) (sym e)
