-- Files none of which lies below another.
use Rattle.std.proofs.Common.{◌≡◌, ℕ, Bool, true, false, cond, not, ◌&&◌, List, [], ◌∷◌, ◌++◌, T, refl, sym, ap, ◌∙◌, subst}
use Rattle.std.specs.Prelude.{Some, None, IsSome}
use Rattle.std.specs.declared.cmp.Ordering.{Ordering}
use Rattle.std.specs.declared.cmp.Ordering.TheVariants.{Less, Equal, Greater}
use Rattle.std.specs.FinMap.{get, find}
use Rattle.std.specs.FinMap.Entries.{below_all, is_sorted}
use Rattle.std.specs.Ordering.{eq_by_cmp, is_lt, is_gt}
use Rattle.res_path.specs.Paths.{Names, path_cmp, is_prefix}
use Rattle.res_path.proofs.Prefixes.{path_itself, prefix_le, prefix_between}
use Rattle.builder_api.specs.Files.{Files}
use Rattle.builder_api.proofs.Maps.{same_path}
use Rattle.builder_api.proofs.Places.{both, cancel, itself}
use Rattle.std_kit.specs.Roots.{IsClear, files_of_root}
use Rattle.std_kit.specs.Inside.Walks.{is_over_first, are_apart}
use Rattle.std_kit.proofs.Neighbours.{not_under}
use Rattle.std_kit.proofs.Walks.{seen, root_sorted}

first : (a b : Bool) → T (a && b) → T a
first true b h = tt
first false b h = h

second : (a b : Bool) → T (a && b) → T b
second true b h = h
second false b h = absurd h

low : (o : Ordering) → T (is_lt o) → is_gt o ≡ false
low Less h = refl
low Equal h = absurd h
low Greater h = absurd h

so : (b : Bool) → T b → b ≡ true
so true h = refl
so false h = absurd h

lower : (o : Ordering) → is_lt o ≡ true → is_gt o ≡ false
lower Less h = refl
lower Equal h = cc
lower Greater h = cc

-- what is found comes after what comes before all
later : (p : Names) (es : List (Names × List ℕ)) → T (below_all path_cmp p es) → (q : Names) → IsSome (find path_cmp q es) → is_lt (path_cmp p q) ≡ true
later p [] h q g = cc
later p (e ∷ es) h q g = by (eq_by_cmp path_cmp q e.0) refl g (later p es (second _ _ h) q)
  where
    by : (b : Bool) → eq_by_cmp path_cmp q e.0 ≡ b → IsSome (cond b (Some e.1) (find path_cmp q es)) → (IsSome (find path_cmp q es) → is_lt (path_cmp p q) ≡ true) → is_lt (path_cmp p q) ≡ true
    by true i g next = ap (λ x. is_lt (path_cmp p x)) (same_path q e.0 i) ∙ so _ (first _ _ h)
    by false i g next = next g

over : (p : Names) (es : List (Names × List ℕ)) → T (below_all path_cmp p es) → T (is_sorted path_cmp es) → is_over_first p es ≡ false
    → (q : Names) → IsSome (find path_cmp q es) → is_prefix p q ≡ true → ⊥
over p [] h sorted none q g f = cc
over p (x ∷ es) h sorted none q g f =
    let yes : is_prefix p x.0 ≡ true = prefix_between p x.0 q (low _ (first _ _ h)) (by (eq_by_cmp path_cmp q x.0) refl g) f in
    let never : true ≡ false = sym yes ∙ none in cc
  where
    by : (b : Bool) → eq_by_cmp path_cmp q x.0 ≡ b → IsSome (cond b (Some x.1) (find path_cmp q es)) → is_gt (path_cmp x.0 q) ≡ false
    by true i g = ap (λ y. is_gt (path_cmp x.0 y)) (same_path q x.0 i) ∙ ap is_gt (path_itself x.0)
    by false i g = lower (path_cmp x.0 q) (later x.0 es (first _ _ sorted) q g)

under : (q : Names) (es : List (Names × List ℕ)) → T (below_all path_cmp q es) → (p : Names) → IsSome (find path_cmp p es) → is_prefix p q ≡ true → ⊥
under q es h p g f = let never : true ≡ false = sym (later q es h p g) ∙ not_under p q (prefix_le p q f) in cc

negated : (b : Bool) → not b ≡ true → b ≡ false
negated true h = cc
negated false h = refl

apart_found : (es : List (Names × List ℕ)) → T (is_sorted path_cmp es) → are_apart es ≡ true
    → (p q : Names) → IsSome (find path_cmp p es) → IsSome (find path_cmp q es) → is_prefix p q ≡ true → p ≡ q
apart_found [] sorted apart p q h g f = cc
apart_found (e ∷ es) sorted apart p q h g f =
    let parts = both (not (is_over_first e.0 es)) (are_apart es) apart in
    by parts (eq_by_cmp path_cmp p e.0) refl (eq_by_cmp path_cmp q e.0) refl h g (λ h g. apart_found es (second _ _ sorted) parts.1 p q h g f)
  where
    by : (not (is_over_first e.0 es) ≡ true) × (are_apart es ≡ true) → (a : Bool) → eq_by_cmp path_cmp p e.0 ≡ a → (b : Bool) → eq_by_cmp path_cmp q e.0 ≡ b
        → IsSome (cond a (Some e.1) (find path_cmp p es)) → IsSome (cond b (Some e.1) (find path_cmp q es))
        → (IsSome (find path_cmp p es) → IsSome (find path_cmp q es) → p ≡ q) → p ≡ q
    by parts true i true j h g next = same_path p e.0 i ∙ sym (same_path q e.0 j)
    by parts true i false j h g next = absurd (over e.0 es (first _ _ sorted) (second _ _ sorted) (negated _ parts.0) q g (ap (λ x. is_prefix x q) (sym (same_path p e.0 i)) ∙ f))
    by parts false i true j h g next = absurd (under e.0 es (first _ _ sorted) p h (ap (is_prefix p) (sym (same_path q e.0 j)) ∙ f))
    by parts false i false j h g next = next h g

pub prefix_both : (root p q : Names) → is_prefix p q ≡ true → is_prefix (root ++ p) (root ++ q) ≡ true
prefix_both [] p q h = h
prefix_both (n ∷ root) p q h = ap (λ b. b && is_prefix (root ++ p) (root ++ q)) (itself n) ∙ prefix_both root p q h

-- so it is with the files of a root
pub clear : (root : Names) (view : Files) → get view root ≡ None → are_apart (files_of_root root view) ≡ true → IsClear root view
clear root view none apart = record {
  none = none;
  apart = λ p q h g f. cancel root p q (apart_found (files_of_root root view) (root_sorted root view) apart (root ++ p) (root ++ q)
      (subst IsSome (sym (seen root view p)) h) (subst IsSome (sym (seen root view q)) g) (prefix_both root p q f));
}
