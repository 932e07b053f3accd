-- The entries of an ordered map, as a finite map under paths.
use Rattle.std.proofs.Common.{◌≡◌, Bool, true, false, cond, ◌&&◌, List, [], ◌∷◌, length, map, T, refl, sym, ap, ◌∙◌, subst}
use Rattle.std.specs.Prelude.{Some, None}
use Rattle.std.specs.BTreeMap.{is_at}
use Rattle.std.specs.Cmp.{eq_by_cmp_equiv}
use Rattle.std.specs.FinMap.{get, insert, remove, entries, keys, len, from_entries, from_sorted, find, is_sorted, get-from_entries, get-insert, get-remove, get-from_sorted, entries-from_sorted, len-entries, same_map}
use Rattle.std.specs.FinMap.Entries.{below_all}
use Rattle.std.specs.List.{AllByRecursion}
use Rattle.std.specs.List.Sorted.{IsStrictlySortedBy}
use Rattle.std.specs.Map.{lookup, keys_of}
use Rattle.std.specs.Ordering.{eq_by_cmp, is_lt}
use Rattle.std.specs.declared.cmp.Ordering.TheVariants.{Less}
use Rattle.std.proofs.lemmas.Map.Keys.{sorted_head, sorted_tail}
use Rattle.res_path.specs.Paths.{Names, path_cmp}
use Rattle.res_path.specs.PathLaws.{path_cmp_total}
use Rattle.res_path.proofs.Prefixes.{path_cmp_exact}

pub both : (a b : Bool) → T a → T b → T (a && b)
both true b h g = g
both false b h g = h

module _ {X : Type 0} where
  pub find_is : (es : List (Names × X)) (q : Names) → find path_cmp q es ≡ lookup (is_at (path_cmp q)) es
  find_is [] q = refl
  find_is (e ∷ es) q = ap (cond (is_at (path_cmp q) e.0) (Some e.1)) (find_is es q)

  -- what is found at a path
  pub get_is : (es : List (Names × X)) (q : Names) → get (from_entries {R = path_cmp} es) q ≡ lookup (is_at (path_cmp q)) es
  get_is es q = get-from_entries path_cmp_total es q ∙ find_is es q

  -- entries that differ at one path make maps that differ there
  pub one_put : (es fs : List (Names × X)) (p : Names) (x : X) → ((q : Names) → lookup (is_at (path_cmp q)) fs ≡ cond (is_at (path_cmp p) q) (Some x) (lookup (is_at (path_cmp q)) es))
      → from_entries {R = path_cmp} fs ≡ insert (from_entries es) p x
  one_put es fs p x h = same_map path_cmp_total path_cmp_exact _ _ (λ q.
      get_is fs q ∙ h q ∙ ap (λ b. cond b (Some x) (lookup (is_at (path_cmp q)) es)) ((eq_by_cmp_equiv path_cmp_total).symm p q)
      ∙ sym (get-insert path_cmp_total (from_entries es) p x q ∙ ap (cond (eq_by_cmp path_cmp q p) (Some x)) (get_is es q)))

  pub one_taken : (es fs : List (Names × X)) (p : Names) → ((q : Names) → lookup (is_at (path_cmp q)) fs ≡ cond (is_at (path_cmp p) q) None (lookup (is_at (path_cmp q)) es))
      → from_entries {R = path_cmp} fs ≡ remove (from_entries es) p
  one_taken es fs p h = same_map path_cmp_total path_cmp_exact _ _ (λ q.
      get_is fs q ∙ h q ∙ ap (λ b. cond b None (lookup (is_at (path_cmp q)) es)) ((eq_by_cmp_equiv path_cmp_total).symm p q)
      ∙ sym (get-remove path_cmp_total (from_entries es) p q ∙ ap (cond (eq_by_cmp path_cmp q p) None) (get_is es q)))

  below : (p : Names) (es : List (Names × X)) → AllByRecursion (λ q. path_cmp p q ≡ Less) (keys_of es) → T (below_all path_cmp p es)
  below p [] h = tt
  below p (e ∷ es) h = subst (λ o. T (is_lt o && below_all path_cmp p es)) (sym h.0) (below p es h.1)

  pub sorted : (es : List (Names × X)) → IsStrictlySortedBy path_cmp (keys_of es) → T (is_sorted path_cmp es)
  sorted [] h = tt
  sorted (e ∷ es) h = both _ _ (below e.0 es (sorted_head path_cmp e.0 (keys_of es) h)) (sorted es (sorted_tail path_cmp e.0 (keys_of es) h))

  as_sorted : (es : List (Names × X)) → T (is_sorted path_cmp es) → from_entries {R = path_cmp} es ≡ from_sorted es
  as_sorted es h = same_map path_cmp_total path_cmp_exact _ _ (λ q. get-from_entries path_cmp_total es q ∙ sym (get-from_sorted path_cmp es q h))

  -- entries in order are those of the map that they make
  pub entries_is : (es : List (Names × X)) → IsStrictlySortedBy path_cmp (keys_of es) → entries (from_entries {R = path_cmp} es) ≡ es
  entries_is es h = ap entries (as_sorted es (sorted es h)) ∙ entries-from_sorted path_cmp es (sorted es h)

  pub keys_is : (es : List (Names × X)) → IsStrictlySortedBy path_cmp (keys_of es) → keys (from_entries {R = path_cmp} es) ≡ map (λ e. e.0) es
  keys_is es h = ap (map (λ e. e.0)) (entries_is es h)

  pub len_is : (es : List (Names × X)) → IsStrictlySortedBy path_cmp (keys_of es) → len (from_entries {R = path_cmp} es) ≡ length es
  len_is es h = len-entries (from_entries es) ∙ ap length (entries_is es h)
