-- What a map by path has at a path after a change, and what is found among entries.
use Rattle.std.proofs.Common.{◌≡◌, ◌≢◌, Bool, true, false, cond, ◌&&◌, List, [], ◌∷◌, T, refl, sym, ap, ◌∙◌}
use Rattle.std.specs.Prelude.{Some, None}
use Rattle.std.specs.FinMap.{FinMap, get, insert, remove, get-insert, get-remove, find, is_sorted}
use Rattle.std.specs.FinMap.Entries.{below_all}
use Rattle.std.specs.Ordering.{is_eq, is_lt, eq_by_cmp}
use Rattle.std.specs.declared.cmp.Ordering.{Ordering}
use Rattle.std.specs.declared.cmp.Ordering.TheVariants.{Less, Equal, Greater}
use Rattle.std.proofs.lemmas.Cmp.{tied_itself}
use Rattle.res_path.specs.Paths.{Names, path_cmp}
use Rattle.res_path.specs.PathLaws.{path_cmp_total}
use Rattle.res_path.proofs.Prefixes.{path_cmp_exact}

pub same_path : (p : Names) → eq_by_cmp path_cmp p p ≡ true
same_path p = ap is_eq (tied_itself path_cmp_total p)

pub other_path : (q p : Names) → q ≢ p → eq_by_cmp path_cmp q p ≡ false
other_path q p h = elim (path_cmp q p) as (λ o. path_cmp q p ≡ o → is_eq o ≡ false) [
  | Less ↦ λ e. refl
  | Equal ↦ λ e. absurd (h (path_cmp_exact q p e))
  | Greater ↦ λ e. refl
] refl

-- two paths are one, or two
pub path_cases : {P : Type 0} (q p : Names) → (q ≡ p → P) → (q ≢ p → P) → P
path_cases {P = P} q p same other = elim (path_cmp q p) as (λ o. path_cmp q p ≡ o → P) [
  | Less ↦ λ e. other (λ is. less (sym e ∙ ap (path_cmp q) (sym is) ∙ tied_itself path_cmp_total q))
  | Equal ↦ λ e. same (path_cmp_exact q p e)
  | Greater ↦ λ e. other (λ is. greater (sym e ∙ ap (path_cmp q) (sym is) ∙ tied_itself path_cmp_total q))
] refl
  where
    less : Less ≡ Equal → ⊥
    less h = cc

    greater : Greater ≡ Equal → ⊥
    greater h = cc

front : (a b : Bool) → T (a && b) → T a
front true b p = tt
front false b p = p

back : (a b : Bool) → T (a && b) → T b
back true b p = p
back false b p = absurd p

apart : (o : Ordering) → T (is_lt o) → is_eq o ≡ false
apart Less p = refl
apart Equal p = absurd p
apart Greater p = absurd p

module _ {X : Type 0} where
  pub put_here : (m : FinMap path_cmp X) (p : Names) (x : X) → get (insert m p x) p ≡ Some x
  put_here m p x = get-insert path_cmp_total m p x p ∙ ap (λ b. cond b (Some x) (get m p)) (same_path p)

  pub put_elsewhere : (m : FinMap path_cmp X) (p q : Names) (x : X) → q ≢ p → get (insert m p x) q ≡ get m q
  put_elsewhere m p q x h = get-insert path_cmp_total m p x q ∙ ap (λ b. cond b (Some x) (get m q)) (other_path q p h)

  pub gone_here : (m : FinMap path_cmp X) (p : Names) → get (remove m p) p ≡ None
  gone_here m p = get-remove path_cmp_total m p p ∙ ap (λ b. cond b None (get m p)) (same_path p)

  pub gone_elsewhere : (m : FinMap path_cmp X) (p q : Names) → q ≢ p → get (remove m p) q ≡ get m q
  gone_elsewhere m p q h = get-remove path_cmp_total m p q ∙ ap (λ b. cond b None (get m q)) (other_path q p h)

  -- nothing is found before all entries
  find_none : (p : Names) (es : List (Names × X)) → T (below_all path_cmp p es) → find path_cmp p es ≡ None
  find_none p [] h = refl
  find_none p (e ∷ es) h = ap (λ b. cond b (Some e.1) (find path_cmp p es)) (apart _ (front _ _ h)) ∙ find_none p es (back _ _ h)

  pub find_first : (e : Names × X) (es : List (Names × X)) → find path_cmp e.0 (e ∷ es) ≡ Some e.1
  find_first e es = ap (λ b. cond b (Some e.1) (find path_cmp e.0 es)) (same_path e.0)

  pub find_later : (q : Names) (e : Names × X) (es : List (Names × X)) → q ≢ e.0 → find path_cmp q (e ∷ es) ≡ find path_cmp q es
  find_later q e es h = ap (λ b. cond b (Some e.1) (find path_cmp q es)) (other_path q e.0 h)

  pub sorted_tail : (e : Names × X) (es : List (Names × X)) → T (is_sorted path_cmp (e ∷ es)) → T (is_sorted path_cmp es)
  sorted_tail e es h = back _ _ h

  pub none_after : (e : Names × X) (es : List (Names × X)) → T (is_sorted path_cmp (e ∷ es)) → find path_cmp e.0 es ≡ None
  none_after e es h = find_none e.0 es (front _ _ h)
