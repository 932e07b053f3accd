-- The map that a sorted list makes.
use Rattle.std.proofs.Common.{◌≡◌, Bool, true, false, cond, not, T, List, [], length, refl, sym, ap, ◌∙◌, subst}
use Rattle.std.specs.Prelude.{None, Result, Ok, Err, OnOk, OnErr, ◌↔◌}
use Rattle.std.specs.declared.cmp.Ordering.{Ordering}
use Rattle.std.specs.Bool.{Decides}
use Rattle.std.specs.Cmp.{IsTotalOrder, eq_by_cmp_equiv, alike_right}
use Rattle.std.specs.Ordering.{eq_by_cmp, is_eq}
use Rattle.std.specs.FinMap.{FinMap, IsAntisymmetric, insert, remove, empty, entries, len, empty_of_len, len-empty, len-entries, from_sorted, entries-from_sorted, entries-insert, get-from_sorted, get-remove, is_sorted, find, same_map, same_entries_map}
use Rattle.std.specs.FinMap.Entries.{put, where_key, is_sorted-put, is_sorted-where_key, find-where_key}
use Rattle.mark_set.proofs.Maps.{entries-empty}

turned : {A : Type 0} (b : Bool) (x y : A) → cond (not b) x y ≡ cond b y x
turned true x y = refl
turned false x y = refl

module _ {K X : Type 0} {R : K → K → Ordering} (o : IsTotalOrder R) (same : IsAntisymmetric R) where
  pub put_sorted : (es fs : List (K × X)) (k : K) (x : X) → T (is_sorted R es) → fs ≡ put R k x es → T (is_sorted R fs)
  put_sorted es fs k x h is = subst (λ (l : List (K × X)). T (is_sorted R l)) (sym is) (is_sorted-put R o k x es h)

  pub put_is : (es fs : List (K × X)) (k : K) (x : X) → T (is_sorted R es) → fs ≡ put R k x es → from_sorted {R = R} fs ≡ insert (from_sorted es) k x
  put_is es fs k x h is = same_entries_map _ _ (
      entries-from_sorted R fs (put_sorted es fs k x h is) ∙ is ∙ ap (put R k x) (sym (entries-from_sorted R es h)) ∙ sym (entries-insert o (from_sorted es) k x))

  -- whatever a put answers
  pub put_keeps : {A E : Type 0} (r : Result A E) (es fs : List (K × X)) (k : K) (x : X) → T (is_sorted R es) → OnOk r (fs ≡ put R k x es) → OnErr r (fs ≡ es) → T (is_sorted R fs)
  put_keeps (Ok _) es fs k x h ok err = put_sorted es fs k x h ok
  put_keeps (Err _) es fs k x h ok err = subst (λ (l : List (K × X)). T (is_sorted R l)) (sym err) h

  pub put_answers : {A E : Type 0} (r : Result A E) (es fs : List (K × X)) (k : K) (x : X) → T (is_sorted R es) → OnOk r (fs ≡ put R k x es) → OnOk r (from_sorted {R = R} fs ≡ insert (from_sorted es) k x)
  put_answers (Ok _) es fs k x h ok = put_is es fs k x h ok
  put_answers (Err _) es fs k x h ok = tt

  abbrev pub untied : K → List (K × X) → List (K × X)
  untied k es = where_key R (λ x. not (eq_by_cmp R k x)) es

  pub taken_sorted : (es fs : List (K × X)) (k : K) → T (is_sorted R es) → fs ≡ untied k es → T (is_sorted R fs)
  taken_sorted es fs k h is = subst (λ (l : List (K × X)). T (is_sorted R l)) (sym is) (is_sorted-where_key R (λ x. not (eq_by_cmp R k x)) es h)

  pub taken_is : (es fs : List (K × X)) (k : K) → T (is_sorted R es) → fs ≡ untied k es → from_sorted {R = R} fs ≡ remove (from_sorted es) k
  taken_is es fs k h is = same_map o same _ _ (λ q.
      get-from_sorted R fs q (taken_sorted es fs k h is) ∙ ap (find R q) is
      ∙ find-where_key R (λ x. not (eq_by_cmp R k x)) q (λ x t. ap (λ r. not (is_eq r)) (sym (alike_right o q x k t))) es
      ∙ turned (eq_by_cmp R k q) (find R q es) None ∙ ap (λ b. cond b None (find R q es)) ((eq_by_cmp_equiv o).symm k q)
      ∙ sym (get-remove o (from_sorted es) k q ∙ ap (cond (eq_by_cmp R q k) None) (get-from_sorted R es q h)))

  pub none_is : from_sorted {X = X} {R = R} [] ≡ empty
  none_is = same_entries_map _ _ (entries-from_sorted R [] tt ∙ sym (entries-empty o same))

  pub len_is : (es : List (K × X)) → T (is_sorted R es) → len (from_sorted {R = R} es) ≡ length es
  len_is es h = len-entries (from_sorted es) ∙ ap length (entries-from_sorted R es h)

  pub no_entries : (m : FinMap R X) → (len m ≡ 0) ↔ (m ≡ empty)
  no_entries m = (empty_of_len m, λ e. ap len e ∙ len-empty R X)

  -- a test that decides the lists decides the maps
  pub same_is : (es fs : List (K × X)) (b : Bool) → T (is_sorted R es) → T (is_sorted R fs) → Decides b (es ≡ fs) → Decides b (from_sorted {R = R} es ≡ from_sorted fs)
  same_is es fs b s t d = (λ h. ap (λ (l : List (K × X)). from_sorted l) (d.0 h), λ e. d.1 (sym (entries-from_sorted R es s) ∙ ap entries e ∙ entries-from_sorted R fs t))
