-- The map that a table's entries make.
use Rattle.std.proofs.Common.{◌≡◌, ◌≢◌, ◌↔◌, Bool, true, false, cond, ◌&&◌, List, [], ◌∷◌, length, refl, sym, ap, ◌∙◌, subst, Ordering}
use Rattle.std.specs.Prelude.{Option, Some, None, IfSome, T, is_some}
use Rattle.std.specs.declared.cmp.Ordering.TheVariants.{Less, Equal, Greater}
use Rattle.std.specs.Ordering.{eq_by_cmp, is_eq, is_lt}
use Rattle.std.specs.Cmp.{IsTotalOrder, eq_by_cmp_equiv, tied_itself}
use Rattle.std.specs.List.{AllByRecursion}
use Rattle.std.specs.List.Sorted.{IsStrictlySortedBy}
use Rattle.std.specs.Map.{lookup, keys_of}
use Rattle.std.specs.BTreeMap.{is_at}
use Rattle.std.specs.FinMap.{FinMap, IsAntisymmetric, get, insert, remove, empty, entries, from_entries, from_sorted, entries-from_sorted, get-from_sorted, is_sorted, find, get-from_entries, get-insert, get-remove, get-empty, same_map}
use Rattle.std.specs.FinMap.Entries.{below_all}

both : (a b : Bool) → T a → T b → T (a && b)
both true b p q = q
both false b p q = p

not_None : {A : Type 0} (x : A) → Some x ≢ None
not_None x e = subst T (ap is_some e) tt

module _ {K X : Type 0} {R : K → K → Ordering} (o : IsTotalOrder R) (same : IsAntisymmetric R) where
  find_is : (es : List (K × X)) (q : K) → find R q es ≡ lookup (is_at (R q)) es
  find_is [] q = refl
  find_is (e ∷ es) q = ap (cond (is_at (R q) e.0) (Some e.1)) (find_is es q)

  pub get_is : (es : List (K × X)) (q : K) → get (from_entries {R = R} es) q ≡ lookup (is_at (R q)) es
  get_is es q = get-from_entries o es q ∙ find_is es q

  pub one_put : (es fs : List (K × X)) (k : K) (x : X) → ((q : K) → lookup (is_at (R q)) fs ≡ cond (is_at (R k) q) (Some x) (lookup (is_at (R q)) es)) → from_entries {R = R} fs ≡ insert (from_entries es) k x
  one_put es fs k x h = same_map o same _ _ (λ q.
      get_is fs q ∙ h q ∙ ap (λ b. cond b (Some x) (lookup (is_at (R q)) es)) ((eq_by_cmp_equiv o).symm k q)
      ∙ sym (get-insert o (from_entries es) k x q ∙ ap (cond (eq_by_cmp R q k) (Some x)) (get_is es q)))

  pub one_taken : (es fs : List (K × X)) (k : K) → ((q : K) → lookup (is_at (R q)) fs ≡ cond (is_at (R k) q) None (lookup (is_at (R q)) es)) → from_entries {R = R} fs ≡ remove (from_entries es) k
  one_taken es fs k h = same_map o same _ _ (λ q.
      get_is fs q ∙ h q ∙ ap (λ b. cond b None (lookup (is_at (R q)) es)) ((eq_by_cmp_equiv o).symm k q)
      ∙ sym (get-remove o (from_entries es) k q ∙ ap (cond (eq_by_cmp R q k) None) (get_is es q)))

  -- a map that was put into isn't empty
  pub put_not_empty : (m : FinMap R X) (k : K) (x : X) → insert m k x ≢ empty
  put_not_empty m k x e = not_None x
      (sym (get-insert o m k x k ∙ ap (λ r. cond (is_eq r) (Some x) (get m k)) (tied_itself o k)) ∙ ap (λ n. get n k) e ∙ get-empty R k)

  pub remove-empty : (k : K) → remove (empty {X = X} {R = R}) k ≡ empty
  remove-empty k = same_map o same _ _ (λ q. get-remove o empty k q ∙ kept (eq_by_cmp R q k) (get empty q) (get-empty R q) ∙ sym (get-empty R q)) where
    kept : (b : Bool) (x : Option X) → x ≡ None → cond b None x ≡ None
    kept true x e = refl
    kept false x e = e

  pub empty_is : (es : List (K × X)) → (length es ≡ 0) ↔ (from_entries {R = R} es ≡ empty)
  empty_is [] = (λ _. refl, λ _. refl)
  empty_is (e ∷ es) = (λ h. cc, λ h. absurd (put_not_empty (from_entries es) e.0 e.1 h))

  below : (k : K) (es : List (K × X)) → AllByRecursion (λ y. R k y ≡ Less) (keys_of es) → T (below_all R k es)
  below k [] a = tt
  below k (e ∷ es) a = both _ _ (subst (λ r. T (is_lt r)) (sym a.0) tt) (below k es a.1)

  rises : (es : List (K × X)) → IsStrictlySortedBy R (keys_of es) → T (is_sorted R es)
  unfolding IsStrictlySortedBy
  rises [] s = tt
  rises (e ∷ es) s = both _ _ (below e.0 es s.0) (rises es s.1)

  pub entries-empty : entries (empty {X = X} {R = R}) ≡ []
  entries-empty = ap entries (same_map o same empty (from_sorted []) (λ q. get-empty R q ∙ sym (get-from_sorted R [] q tt))) ∙ entries-from_sorted R [] tt

  -- entries in order are the map's
  pub entries_is : (es : List (K × X)) → IsStrictlySortedBy R (keys_of es) → entries (from_entries {R = R} es) ≡ es
  entries_is es s =
      let sorted = rises es s in
      ap entries (same_map o same _ _ (λ q. get-from_entries o es q ∙ sym (get-from_sorted R es q sorted))) ∙ entries-from_sorted R es sorted

  -- what holds of every value holds after one is put, and after one is taken
  pub all_put : (P : K → X → Type 0) (m : FinMap R X) (k : K) (x : X) → ((q : K) → IfSome (get m q) (P q)) → P k x → (q : K) → IfSome (get (insert m k x) q) (P q)
  all_put P m k x all one q = rw (get-insert o m k x q) (go (R q k) refl) where
    go : (r : Ordering) → R q k ≡ r → IfSome (cond (is_eq r) (Some x) (get m q)) (P q)
    go Less e = all q
    go Equal e = rw (same q k e) one
    go Greater e = all q

  pub all_taken : (P : K → X → Type 0) (m : FinMap R X) (k : K) → ((q : K) → IfSome (get m q) (P q)) → (q : K) → IfSome (get (remove m k) q) (P q)
  all_taken P m k all q = rw (get-remove o m k q) (go (eq_by_cmp R q k)) where
    go : (b : Bool) → IfSome (cond b None (get m q)) (P q)
    go true = tt
    go false = all q

  pub all_none : (P : K → X → Type 0) (q : K) → IfSome (get (empty {X = X} {R = R}) q) (P q)
  all_none P q = rw (get-empty R q) tt
