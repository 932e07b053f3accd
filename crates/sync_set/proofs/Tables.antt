-- The map that a table's entries make.
use Rattle.std.proofs.Common.{◌≡◌, ◌≢◌, ◌↔◌, ℕ, Bool, true, false, cond, ◌&&◌, List, [], ◌∷◌, length, refl, sym, ap, ◌∙◌, subst}
use Rattle.std.specs.Prelude.{Option, Some, None, Result, Ok, Err, OnOk, OnErr, T, is_some}
use Rattle.std.specs.Bool.{Decides}
use Rattle.std.specs.declared.cmp.Ordering.TheVariants.{Less}
use Rattle.std.specs.Ordering.{nat_cmp, eq_by_cmp, is_eq, is_lt}
use Rattle.std.specs.Cmp.{eq_by_cmp_equiv, nat_cmp_total, tied_itself}
use Rattle.std.specs.List.{AllByRecursion}
use Rattle.std.specs.List.Sorted.{IsStrictlySortedBy}
use Rattle.std.specs.Map.{lookup, keys_of}
use Rattle.std.specs.BTreeMap.{is_at}
use Rattle.std.specs.FinMap.{FinMap, get, insert, remove, empty, entries, len, len-entries, from_entries, from_sorted, entries-from_sorted, get-from_sorted, is_sorted, find, get-from_entries, get-insert, get-remove, get-empty, same_map, nat_cmp-IsAntisymmetric}
use Rattle.std.specs.FinMap.Entries.{below_all}

both : (a b : Bool) → T a → T b → T (a && b)
both true b p q = q
both false b p q = p

not_None : {A : Type 0} (x : A) → Some x ≢ None
not_None x e = subst T (ap is_some e) tt

module _ {X : Type 0} where
  find_is : (es : List (ℕ × X)) (q : ℕ) → find nat_cmp q es ≡ lookup (is_at (nat_cmp q)) es
  find_is [] q = refl
  find_is (e ∷ es) q = ap (cond (is_at (nat_cmp q) e.0) (Some e.1)) (find_is es q)

  pub get_is : (es : List (ℕ × X)) (q : ℕ) → get (from_entries {R = nat_cmp} es) q ≡ lookup (is_at (nat_cmp q)) es
  get_is es q = get-from_entries nat_cmp_total es q ∙ find_is es q

  pub one_put : (es fs : List (ℕ × X)) (k : ℕ) (x : X) → ((q : ℕ) → lookup (is_at (nat_cmp q)) fs ≡ cond (is_at (nat_cmp k) q) (Some x) (lookup (is_at (nat_cmp q)) es)) → from_entries {R = nat_cmp} fs ≡ insert (from_entries es) k x
  one_put es fs k x h = same_map nat_cmp_total nat_cmp-IsAntisymmetric _ _ (λ q.
      get_is fs q ∙ h q ∙ ap (λ b. cond b (Some x) (lookup (is_at (nat_cmp q)) es)) ((eq_by_cmp_equiv nat_cmp_total).symm k q)
      ∙ sym (get-insert nat_cmp_total (from_entries es) k x q ∙ ap (cond (eq_by_cmp nat_cmp q k) (Some x)) (get_is es q)))

  pub one_taken : (es fs : List (ℕ × X)) (k : ℕ) → ((q : ℕ) → lookup (is_at (nat_cmp q)) fs ≡ cond (is_at (nat_cmp k) q) None (lookup (is_at (nat_cmp q)) es)) → from_entries {R = nat_cmp} fs ≡ remove (from_entries es) k
  one_taken es fs k h = same_map nat_cmp_total nat_cmp-IsAntisymmetric _ _ (λ q.
      get_is fs q ∙ h q ∙ ap (λ b. cond b None (lookup (is_at (nat_cmp q)) es)) ((eq_by_cmp_equiv nat_cmp_total).symm k q)
      ∙ sym (get-remove nat_cmp_total (from_entries es) k q ∙ ap (cond (eq_by_cmp nat_cmp q k) None) (get_is es q)))

  -- a map that was put into isn't empty
  pub put_not_empty : (m : FinMap nat_cmp X) (k : ℕ) (x : X) → insert m k x ≢ empty
  put_not_empty m k x e = not_None x
      (sym (get-insert nat_cmp_total m k x k ∙ ap (λ o. cond (is_eq o) (Some x) (get m k)) (tied_itself nat_cmp_total k)) ∙ ap (λ n. get n k) e ∙ get-empty nat_cmp k)

  -- nor is one that wasn't empty, whatever a put answers
  pub still_not_empty : {E : Type 0} (r : Result (Unit {0}) E) (m n : FinMap nat_cmp X) (k : ℕ) (x : X) → OnOk r (n ≡ insert m k x) → OnErr r (n ≡ m) → m ≢ empty → n ≢ empty
  still_not_empty (Ok _) m n k x ok err full e = put_not_empty m k x (sym ok ∙ e)
  still_not_empty (Err _) m n k x ok err full e = full (sym err ∙ e)

  pub remove-empty : (k : ℕ) → remove (empty {X = X} {R = nat_cmp}) k ≡ empty
  remove-empty k = same_map nat_cmp_total nat_cmp-IsAntisymmetric _ _ (λ q. get-remove nat_cmp_total empty k q ∙ kept (eq_by_cmp nat_cmp q k) (get empty q) (get-empty nat_cmp q) ∙ sym (get-empty nat_cmp q)) where
    kept : (b : Bool) (o : Option X) → o ≡ None → cond b None o ≡ None
    kept true o e = refl
    kept false o e = e

  pub empty_is : (es : List (ℕ × X)) → (length es ≡ 0) ↔ (from_entries {R = nat_cmp} es ≡ empty)
  empty_is [] = (λ _. refl, λ _. refl)
  empty_is (e ∷ es) = (λ h. cc, λ h. absurd (put_not_empty (from_entries es) e.0 e.1 h))

  below : (k : ℕ) (es : List (ℕ × X)) → AllByRecursion (λ y. nat_cmp k y ≡ Less) (keys_of es) → T (below_all nat_cmp k es)
  below k [] a = tt
  below k (e ∷ es) a = both _ _ (subst (λ o. T (is_lt o)) (sym a.0) tt) (below k es a.1)

  rises : (es : List (ℕ × X)) → IsStrictlySortedBy nat_cmp (keys_of es) → T (is_sorted nat_cmp es)
  unfolding IsStrictlySortedBy
  rises [] s = tt
  rises (e ∷ es) s = both _ _ (below e.0 es s.0) (rises es s.1)

  pub entries-empty : entries (empty {X = X} {R = nat_cmp}) ≡ []
  entries-empty = ap entries (same_map nat_cmp_total nat_cmp-IsAntisymmetric empty (from_sorted []) (λ q. get-empty nat_cmp q ∙ sym (get-from_sorted nat_cmp [] q tt))) ∙ entries-from_sorted nat_cmp [] tt

  -- entries in order are the map's
  pub entries_is : (es : List (ℕ × X)) → IsStrictlySortedBy nat_cmp (keys_of es) → entries (from_entries {R = nat_cmp} es) ≡ es
  entries_is es s =
      let sorted = rises es s in
      ap entries (same_map nat_cmp_total nat_cmp-IsAntisymmetric _ _ (λ q. get-from_entries nat_cmp_total es q ∙ sym (get-from_sorted nat_cmp es q sorted))) ∙ entries-from_sorted nat_cmp es sorted

  pub len_is : (es : List (ℕ × X)) → IsStrictlySortedBy nat_cmp (keys_of es) → len (from_entries {R = nat_cmp} es) ≡ length es
  len_is es s = len-entries (from_entries es) ∙ ap length (entries_is es s)

  -- a test that decides the entries decides the maps
  pub same_is : (es fs : List (ℕ × X)) (b : Bool) → IsStrictlySortedBy nat_cmp (keys_of es) → IsStrictlySortedBy nat_cmp (keys_of fs) → Decides b (es ≡ fs) → Decides b (from_entries {R = nat_cmp} es ≡ from_entries fs)
  same_is es fs b s t d = (λ h. ap (λ l. from_entries l) (d.0 h), λ e. d.1 (sym (entries_is es s) ∙ ap entries e ∙ entries_is fs t))
