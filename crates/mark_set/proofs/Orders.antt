-- Ids in order, and the markers that have them.
use Rattle.std.proofs.Common.{Bor, ◌≡◌, ℕ, Bool, true, false, cond, List, [], ◌∷◌, ◌&&◌, nat_eq, nat_cmp, refl, sym, ap, ◌∙◌, subst, arith}
use Rattle.std.specs.Map.Iter.{TakesFirst, deref}
use Rattle.std.specs.Option.{option_copied}
use Rattle.std.specs.Prelude.{Option, Some, None, option_map, IsSome, T}
use Rattle.std.specs.List.{filter_map, cons_option, AllByRecursion}
use Rattle.std.specs.Ordering.{eq_by_cmp, is_lt}
use Rattle.std.specs.Map.{keys_of, values_of}
use Rattle.std.specs.FinMap.{FinMap, empty, get, get-empty, insert, remove, keys, values, entries, entries_sorted, find, get-entries, is_sorted}
use Rattle.std.specs.FinMap.Entries.{below_all}
use Rattle.std.proofs.lemmas.Bool.Decides.{nat_tests}
use Rattle.std.proofs.lemmas.Bool.{eqb-true}
use Rattle.mark_set.specs.Inside.Orders.{HasIds, markers_at, AreThere}
use Rattle.mark_set.specs.Markers.{Marks}
use Rattle.mark_set.specs.declared.marker.Marker.{Marker}
use Rattle.mark_set.proofs.Ids.{get_insert, get_remove, ties}

-- ---- what a put, a removal and a change leave

pub no_ids : HasIds empty empty
no_ids q = get-empty nat_cmp q ∙ sym (ap (option_map (λ _. tt)) (get-empty nat_cmp q))

pub ids_put : (ids : FinMap nat_cmp (Unit {0})) (marks : Marks) (k : ℕ) (m : Marker) → HasIds ids marks → HasIds (insert ids k tt) (insert marks k m)
ids_put ids marks k m has q = get_insert ids k tt q ∙ go (nat_eq q k) (has q) ∙ sym (ap (option_map (λ _. tt)) (get_insert marks k m q)) where
  go : (b : Bool) → get ids q ≡ option_map (λ _. tt) (get marks q) → cond b (Some tt) (get ids q) ≡ option_map (λ _. tt) (cond b (Some m) (get marks q))
  go true e = refl
  go false e = e

-- an id that is there stays
pub ids_changed : (ids : FinMap nat_cmp (Unit {0})) (marks : Marks) (k : ℕ) (old new : Marker) → get marks k ≡ Some old → HasIds ids marks → HasIds ids (insert marks k new)
ids_changed ids marks k old new there has q = go (nat_eq q k) (λ t. ap (λ (y : ℕ). get marks y) (eqb-true q k t) ∙ there) (has q) ∙ sym (ap (option_map (λ _. tt)) (get_insert marks k new q)) where
  go : (b : Bool) → (b ≡ true → get marks q ≡ Some old) → get ids q ≡ option_map (λ _. tt) (get marks q) → get ids q ≡ option_map (λ _. tt) (cond b (Some new) (get marks q))
  go true h e = e ∙ ap (option_map (λ _. tt)) (h refl)
  go false h e = e

pub ids_taken : (ids : FinMap nat_cmp (Unit {0})) (marks : Marks) (k : ℕ) → HasIds ids marks → HasIds (remove ids k) (remove marks k)
ids_taken ids marks k has q = get_remove ids k q ∙ go (nat_eq q k) (has q) ∙ sym (ap (option_map (λ _. tt)) (get_remove marks k q)) where
  go : (b : Bool) → get ids q ≡ option_map (λ _. tt) (get marks q) → cond b None (get ids q) ≡ option_map (λ _. tt) (cond b None (get marks q))
  go true e = refl
  go false e = e

-- ---- the markers of all ids are all markers

parts : (a b : Bool) → T (a && b) → T a × T b
parts true b h = (tt, h)
parts false b h = absurd h

above : (a b : ℕ) → T (is_lt (nat_cmp a b)) → eq_by_cmp nat_cmp b a ≡ false
above a b h = grind (arith)

itself : (n : ℕ) → nat_eq n n ≡ true
itself n = grind (arith, nat_tests)

module _ {X : Type 0} where
  below_is : (k : ℕ) (es : List (ℕ × X)) → T (below_all nat_cmp k es) → AllByRecursion (λ e. eq_by_cmp nat_cmp e.0 k ≡ false) es
  below_is k [] h = tt
  below_is k (e ∷ es) h = let p = parts _ _ h in (above k e.0 p.0, below_is k es p.1)

  found_after : (k : ℕ) (x : X) (es all : List (ℕ × X)) → AllByRecursion (λ e. eq_by_cmp nat_cmp e.0 k ≡ false) es → AllByRecursion (λ e. find nat_cmp e.0 all ≡ Some e.1) es
      → AllByRecursion (λ e. find nat_cmp e.0 ((k, x) ∷ all) ≡ Some e.1) es
  found_after k x [] all a b = tt
  found_after k x (e ∷ es) all a b = (rw a.0 b.0, found_after k x es all a.1 b.1)

  each_found : (es : List (ℕ × X)) → T (is_sorted nat_cmp es) → AllByRecursion (λ e. find nat_cmp e.0 es ≡ Some e.1) es
  each_found [] h = tt
  each_found (e ∷ es) h = let p = parts _ _ h in (rw (ties e.0 e.0 ∙ itself e.0) refl, found_after e.0 e.1 es es (below_is e.0 es p.0) (each_found es p.1))

  found_there : (m : FinMap nat_cmp X) (es : List (ℕ × X)) → AllByRecursion (λ e. find nat_cmp e.0 (entries m) ≡ Some e.1) es → AllByRecursion (λ e. get m e.0 ≡ Some e.1) es
  found_there m [] a = tt
  found_there m (e ∷ es) a = (get-entries m e.0 ∙ a.0, found_there m es a.1)

  -- each entry of a map is found
  got : (m : FinMap nat_cmp X) → AllByRecursion (λ e. get m e.0 ≡ Some e.1) (entries m)
  got m = found_there m (entries m) (each_found (entries m) (entries_sorted m))

shown : (marks : Marks) (es : List (ℕ × Marker)) → AllByRecursion (λ e. get marks e.0 ≡ Some e.1) es → filter_map (get marks) (keys_of es) ≡ values_of es
shown marks [] a = refl
shown marks (e ∷ es) a = ap (λ o. cons_option o (filter_map (get marks) (keys_of es))) a.0 ∙ ap (λ l. e.1 ∷ l) (shown marks es a.1)

at_keys : (marks : Marks) (ids : List (ℕ × Unit {0})) → markers_at marks ids ≡ filter_map (get marks) (keys_of ids)
at_keys marks [] = refl
at_keys marks (id ∷ ids) = ap (λ l. cons_option (get marks id.0) l) (at_keys marks ids)

pub all_markers : (marks : Marks) (ids : List (ℕ × Unit {0})) → keys_of ids ≡ keys marks → markers_at marks ids ≡ values marks
all_markers marks ids e =
    at_keys marks ids ∙ ap (λ l. filter_map (get marks) l) e ∙ shown marks (entries marks) (got marks)

-- ---- each id has a marker

some_there : (o : Option Marker) (u : Unit {0}) → Some u ≡ option_map (λ _. tt) o → IsSome o
some_there None u e = absurd cc
some_there (Some m) u e = refl

are_there : (ids : FinMap nat_cmp (Unit {0})) (marks : Marks) → HasIds ids marks → (es : List (ℕ × Unit {0})) → AllByRecursion (λ e. get ids e.0 ≡ Some e.1) es → AreThere marks es
are_there ids marks has [] a = tt
are_there ids marks has (e ∷ es) a = (some_there (get marks e.0) e.1 (sym a.0 ∙ has e.0), are_there ids marks has es a.1)

pub all_there : (ids : FinMap nat_cmp (Unit {0})) (marks : Marks) → HasIds ids marks → AreThere marks (entries ids)
all_there ids marks has = are_there ids marks has (entries ids) (got ids)

-- ---- one step of a walk

neither : (o : Option Marker) → None ≡ o → IsSome o → ⊥
neither None e some = absurd cc
neither (Some m) e some = absurd cc

pub next_is : (marks : Marks) (ids left : List (ℕ × Unit {0})) (k : ℕ) (u : Unit {0}) (r : Option (Bor Marker)) → ids ≡ (k, u) ∷ left → option_copied r ≡ get marks k → AreThere marks ids
    → TakesFirst deref (markers_at marks ids) r (markers_at marks left) × AreThere marks left
next_is marks ids left k u r e is there =
    let all : AreThere marks ((k, u) ∷ left) = subst (AreThere marks) e there in
    rw e (go r (get marks k) is all.0, all.1) where
      go : (r : Option (Bor Marker)) (o : Option Marker) → option_copied r ≡ o → IsSome o → TakesFirst deref (cons_option o (markers_at marks left)) r (markers_at marks left)
      go None o e some = absurd (neither o e some)
      go (Some m) o e some = rw (← e) refl

pub none_next : (marks : Marks) (ids left : List (ℕ × Unit {0})) → ids ≡ [] → left ≡ [] → (markers_at marks ids ≡ []) × (markers_at marks left ≡ [])
none_next marks ids left e f = (rw e refl, rw f refl)
