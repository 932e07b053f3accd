-- The map that a table's entries make.
use Rattle.std.proofs.Common.{◌≡◌, Bool, true, false, cond, ◌&&◌, List, [], ◌∷◌, refl, sym, ap, ◌∙◌, subst}
use Rattle.std.specs.Prelude.{Option, Some, None, T}
use Rattle.std.specs.Option.{option_map}
use Rattle.std.specs.declared.cmp.Ordering.{Ordering}
use Rattle.std.specs.declared.cmp.Ordering.TheVariants.{Less, Equal, Greater}
use Rattle.std.specs.Ordering.{eq_by_cmp, is_eq, is_lt}
use Rattle.std.specs.Cmp.{IsTotalOrder, eq_by_cmp_equiv}
use Rattle.std.specs.List.{AllByRecursion}
use Rattle.std.specs.List.Sorted.{IsStrictlySortedBy}
use Rattle.std.specs.Map.{lookup, keys_of}
use Rattle.std.specs.BTreeMap.{is_at}
use Rattle.std.specs.FinMap.{IsAntisymmetric, get, empty, insert, remove, entries, from_entries, from_sorted, entries-from_sorted, get-from_sorted, is_sorted, find, get-from_entries, get-empty, get-insert, get-remove, same_map}
use Rattle.std.specs.FinMap.Entries.{below_all}
use Rattle.job_queue.specs.Changed.{put_if, changed}

both : (a b : Bool) → T a → T b → T (a && b)
both true b p q = q
both false b p q = p

module _ {K X : Type 0} {R : K → K → Ordering} (o : IsTotalOrder R) where
  find_is : (es : List (K × X)) (q : K) → find R q es ≡ lookup (is_at (R q)) es
  find_is [] q = refl
  find_is (e ∷ es) q = ap (cond (is_at (R q) e.0) (Some e.1)) (find_is es q)

  pub get_is : (es : List (K × X)) (q : K) → get (from_entries {R = R} es) q ≡ lookup (is_at (R q)) es
  get_is es q = get-from_entries o es q ∙ find_is es q

  pub one_put : IsAntisymmetric R → (es fs : List (K × X)) (k : K) (x : X) → ((q : K) → lookup (is_at (R q)) fs ≡ cond (is_at (R k) q) (Some x) (lookup (is_at (R q)) es))
      → from_entries {R = R} fs ≡ insert (from_entries es) k x
  one_put same es fs k x h = same_map o same _ _ (λ q.
      get_is fs q ∙ h q ∙ ap (λ b. cond b (Some x) (lookup (is_at (R q)) es)) ((eq_by_cmp_equiv o).symm k q)
      ∙ sym (get-insert o (from_entries es) k x q ∙ ap (cond (eq_by_cmp R q k) (Some x)) (get_is es q)))

  pub one_taken : IsAntisymmetric R → (es fs : List (K × X)) (k : K) → ((q : K) → lookup (is_at (R q)) fs ≡ cond (is_at (R k) q) None (lookup (is_at (R q)) es))
      → from_entries {R = R} fs ≡ remove (from_entries es) k
  one_taken same es fs k h = same_map o same _ _ (λ q.
      get_is fs q ∙ h q ∙ ap (λ b. cond b None (lookup (is_at (R q)) es)) ((eq_by_cmp_equiv o).symm k q)
      ∙ sym (get-remove o (from_entries es) k q ∙ ap (cond (eq_by_cmp R q k) None) (get_is es q)))

  below : (k : K) (es : List (K × X)) → AllByRecursion (λ y. R k y ≡ Less) (keys_of es) → T (below_all R k es)
  below k [] a = tt
  below k (e ∷ es) a = both _ _ (subst (λ r. T (is_lt r)) (sym a.0) tt) (below k es a.1)

  rises : (es : List (K × X)) → IsStrictlySortedBy R (keys_of es) → T (is_sorted R es)
  unfolding IsStrictlySortedBy
  rises [] s = tt
  rises (e ∷ es) s = both _ _ (below e.0 es s.0) (rises es s.1)

  -- entries in order are the map's
  pub entries_is : IsAntisymmetric R → (es : List (K × X)) → IsStrictlySortedBy R (keys_of es) → entries (from_entries {R = R} es) ≡ es
  entries_is same es s =
      let sorted = rises es s in
      ap entries (same_map o same _ _ (λ q. get-from_entries o es q ∙ sym (get-from_sorted R es q sorted))) ∙ entries-from_sorted R es sorted

  pub entries-empty : IsAntisymmetric R → entries (empty {X = X} {R = R}) ≡ []
  entries-empty same = ap entries (same_map o same empty (from_sorted []) (λ q. get-empty R q ∙ sym (get-from_sorted R [] q tt))) ∙ entries-from_sorted R [] tt

pub tied : (o : Ordering) → is_eq o ≡ true → o ≡ Equal
tied Less h = cc
tied Equal h = refl
tied Greater h = cc

-- ---- one value is changed

module _ {K X : Type 0} {R : K → K → Ordering} (o : IsTotalOrder R) (exact : IsAntisymmetric R) (es fs : List (K × X)) (n : K) (f : X → X) where
  pub one_changed : ((q : K) → lookup (is_at (R q)) fs ≡ cond (is_at (R n) q) (option_map f (lookup (is_at (R n)) es)) (lookup (is_at (R q)) es))
      → from_entries {R = R} fs ≡ changed f n (from_entries {R = R} es)
  one_changed h = by (lookup (is_at (R n)) es) refl
    where
      kept : lookup (is_at (R n)) es ≡ None → (q : K) (b : Bool) → is_at (R n) q ≡ b → cond b (option_map f (lookup (is_at (R n)) es)) (lookup (is_at (R q)) es) ≡ lookup (is_at (R q)) es
      kept none q true i = ap (option_map f) none ∙ sym none ∙ ap (λ m. lookup (is_at (R m)) es) (exact n q (tied (R n q) i))
      kept none q false i = refl

      by : (x : Option X) → lookup (is_at (R n)) es ≡ x → from_entries {R = R} fs ≡ changed f n (from_entries {R = R} es)
      by None none =
          same_map o exact _ _ (λ q. get_is o fs q ∙ h q ∙ kept none q (is_at (R n) q) refl ∙ sym (get_is o es q))
          ∙ ap (λ x. put_if (from_entries {R = R} es) n (option_map f x)) (sym (get_is o es n ∙ none))
      by (Some x) some =
          one_put o exact es fs n (f x) (λ q. h q ∙ ap (λ y. cond (is_at (R n) q) (option_map f y) (lookup (is_at (R q)) es)) some)
          ∙ ap (λ y. put_if (from_entries {R = R} es) n (option_map f y)) (sym (get_is o es n ∙ some))
