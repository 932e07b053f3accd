-- Maps by the list of their entries, whose keys rise.
use Rattle.std.proofs.Common.{◌≡◌, ◌<◌, ℕ, Bool, true, false, cond, List, [], ◌∷◌, ◌++◌, ◌&&◌, map, nat_cmp, Ordering, refl, sym, ap, ◌∙◌, subst, arith}
use Rattle.std.specs.Prelude.{Option, Some, None, IfSome, T, nat_lt}
use Rattle.std.specs.declared.cmp.Ordering.TheVariants.{Less, Equal, Greater}
use Rattle.std.specs.Cmp.{IsTotalOrder, tied_itself}
use Rattle.std.specs.List.{AllByRecursion}
use Rattle.std.specs.Ordering.{eq_by_cmp, is_lt, is_eq, ordering_reverse}
use Rattle.std.specs.FinMap.{FinMap, IsAntisymmetric, get, insert, entries, entries_sorted, entries-insert, find, put, get-entries, is_sorted}
use Rattle.std.specs.FinMap.Entries.{below_all, by_order}
use Rattle.std.proofs.lemmas.Bool.Decides.{nat_tests}
use Rattle.save_form.specs.Lists.{is_above}

parts : (a b : Bool) → T (a && b) → T a × T b
parts true b h = (tt, h)
parts false b h = absurd h

both : (a b : Bool) → T a → T b → T (a && b)
both true b p q = q
both false b p q = absurd p

less : (r : Ordering) → T (is_lt r) → r ≡ Less
less Less h = refl
less Equal h = absurd h
less Greater h = absurd h

is_less : (r : Ordering) → is_lt r ≡ true → r ≡ Less
is_less Less h = refl
is_less Equal h = absurd cc
is_less Greater h = absurd cc

above : {K : Type 0} {R : K → K → Ordering} → IsTotalOrder R → (a b : K) → T (is_lt (R a b)) → eq_by_cmp R b a ≡ false
above {R = R} o a b h = let e : R b a ≡ Greater = o.antisymm b a ∙ ap ordering_reverse (less (R a b) h) in ap is_eq e

module _ {K X : Type 0} {R : K → K → Ordering} (o : IsTotalOrder R) where
  below_is : (k : K) (es : List (K × X)) → T (below_all R k es) → AllByRecursion (λ e. eq_by_cmp R e.0 k ≡ false) es
  below_is k [] h = tt
  below_is k (e ∷ es) h = let p = parts _ _ h in (above o k e.0 p.0, below_is k es p.1)

  found_after : (k : K) (x : X) (es all : List (K × X)) → AllByRecursion (λ e. eq_by_cmp R e.0 k ≡ false) es → AllByRecursion (λ e. find R e.0 all ≡ Some e.1) es
      → AllByRecursion (λ e. find R e.0 ((k, x) ∷ all) ≡ Some e.1) es
  found_after k x [] all a b = tt
  found_after k x (e ∷ es) all a b = (rw a.0 b.0, found_after k x es all a.1 b.1)

  each_found : (es : List (K × X)) → T (is_sorted R es) → AllByRecursion (λ e. find R e.0 es ≡ Some e.1) es
  each_found [] h = tt
  each_found (e ∷ es) h =
      let p = parts _ _ h in
      let itself : eq_by_cmp R e.0 e.0 ≡ true = ap is_eq (tied_itself o e.0) in
      (rw itself refl, found_after e.0 e.1 es es (below_is e.0 es p.0) (each_found es p.1))

  found_there : (m : FinMap R X) (es : List (K × X)) → AllByRecursion (λ e. find R e.0 (entries m) ≡ Some e.1) es → AllByRecursion (λ e. get m e.0 ≡ Some e.1) es
  found_there m [] a = tt
  found_there m (e ∷ es) a = (get-entries m e.0 ∙ a.0, found_there m es a.1)

  -- each entry of a map is found
  got : (m : FinMap R X) → AllByRecursion (λ e. get m e.0 ≡ Some e.1) (entries m)
  got m = found_there m (entries m) (each_found (entries m) (entries_sorted m))

  some_holds : (P : X → Type 0) (x : Option X) (y : X) → x ≡ Some y → IfSome x P → P y
  some_holds P x y e h = rw e at h

  all_hold : (P : K → X → Type 0) (m : FinMap R X) → ((q : K) → IfSome (get m q) (P q)) → (es : List (K × X)) → AllByRecursion (λ e. get m e.0 ≡ Some e.1) es → AllByRecursion (λ e. P e.0 e.1) es
  all_hold P m h [] a = tt
  all_hold P m h (e ∷ es) a = (some_holds (P e.0) (get m e.0) e.1 a.0 (h e.0), all_hold P m h es a.1)

  -- what holds of what is found holds of each entry
  pub to_all : (P : K → X → Type 0) (m : FinMap R X) → ((q : K) → IfSome (get m q) (P q)) → AllByRecursion (λ e. P e.0 e.1) (entries m)
  to_all P m h = all_hold P m h (entries m) (got m)

  module _ (same : IsAntisymmetric R) where
    find_all : (P : K → X → Type 0) (es : List (K × X)) → AllByRecursion (λ e. P e.0 e.1) es → (q : K) → IfSome (find R q es) (P q)
    find_all P [] a q = tt
    find_all P (e ∷ es) a q = go (find_all P es a.1 q) (R q e.0) refl where
      go : IfSome (find R q es) (P q) → (r : Ordering) → R q e.0 ≡ r → IfSome (cond (is_eq r) (Some e.1) (find R q es)) (P q)
      go rest Less h = rest
      go rest Equal h = subst (λ (k : K). P k e.1) (sym (same q e.0 h)) a.0
      go rest Greater h = rest

    -- and the other way round
    pub from_all : (P : K → X → Type 0) (m : FinMap R X) → AllByRecursion (λ e. P e.0 e.1) (entries m) → (q : K) → IfSome (get m q) (P q)
    from_all P m a q = rw (get-entries m q) (find_all P (entries m) a q)

  -- ---- keys that rise, each above the one before it

  abbrev pub Chain : Option K → List (K × X) → Type 0
  Chain before [] = Unit {0}
  Chain before (e ∷ es) = (is_above (λ a b. is_lt (R a b)) before e.0 ≡ true) × Chain (Some e.0) es

  lower : (k l : K) (es : List (K × X)) → R k l ≡ Less → T (below_all R l es) → T (below_all R k es)
  lower k l [] e h = tt
  lower k l (x ∷ es) e h =
      let p = parts _ _ h in
      both _ _ (subst (λ (r : Ordering). T (is_lt r)) (sym (o.trans k l x.0 e (less (R l x.0) p.0))) tt) (lower k l es e p.1)

  below_chain : (k : K) (es : List (K × X)) → Chain (Some k) es → T (below_all R k es)
  below_chain k [] h = tt
  below_chain k (e ∷ es) h =
      let l = is_less (R k e.0) h.0 in
      both _ _ (subst (λ (r : Ordering). T (is_lt r)) (sym l) tt) (lower k e.0 es l (below_chain e.0 es h.1))

  pub sorted_chain : (before : Option K) (es : List (K × X)) → Chain before es → T (is_sorted R es)
  sorted_chain before [] h = tt
  sorted_chain before (e ∷ es) h = both _ _ (below_chain e.0 es h.1) (sorted_chain (Some e.0) es h.1)

  chain_below : (k : K) (es : List (K × X)) → T (below_all R k es) → T (is_sorted R es) → Chain (Some k) es
  chain_below k [] h s = tt
  chain_below k (e ∷ es) h s =
      let p = parts _ _ h in
      let q = parts _ _ s in
      (ap is_lt (less (R k e.0) p.0), chain_below e.0 es q.0 q.1)

  pub chain_sorted : (es : List (K × X)) → T (is_sorted R es) → Chain None es
  chain_sorted [] s = tt
  chain_sorted (e ∷ es) s = let q = parts _ _ s in (refl, chain_below e.0 es q.0 q.1)

  -- ---- an entry above all others

  put_last : (k : K) (x : X) (es : List (K × X)) → AllByRecursion (λ e. R k e.0 ≡ Greater) es → put R k x es ≡ es ++ (k, x) ∷ []
  put_last k x [] a = refl
  put_last k x (e ∷ es) a = ap (λ (r : Ordering). by_order r ((k, x) ∷ e ∷ es) ((e.0, x) ∷ es) (e ∷ put R k x es)) a.0 ∙ ap (λ (l : List (K × X)). e ∷ l) (put_last k x es a.1)

  pub last_entry : (m : FinMap R X) (k : K) (x : X) → AllByRecursion (λ e. R k e.0 ≡ Greater) (entries m) → entries (insert m k x) ≡ entries m ++ (k, x) ∷ []
  last_entry m k x a = entries-insert o m k x ∙ put_last k x (entries m) a

pub lt_is : (a b : ℕ) → nat_lt a b ≡ is_lt (nat_cmp a b)
lt_is a b = grind (arith, nat_tests)

pub above_is : (a b : ℕ) → a < b → nat_cmp b a ≡ Greater
above_is a b h = grind (arith, nat_tests)

pub lt_of : (a b : ℕ) → nat_lt a b ≡ true → a < b
lt_of a b h = grind (arith, nat_tests)

-- ---- lists of which one item can't be told of anything

pub none_such : {A B : Type 0} (f : A → B) (P : A → Type 0) (first : B) → ((a : A) → (f a ≡ first) × P a → ⊥) → (pre others : List B) (es : List A) → map f es ≡ pre ++ first ∷ others → AllByRecursion P es → ⊥
none_such f P first never [] others [] e a = absurd cc
none_such f P first never [] others (x ∷ es) e a = never x (cc, a.0)
none_such f P first never (b ∷ pre) others [] e a = absurd cc
none_such f P first never (b ∷ pre) others (x ∷ es) e a = let rest : map f es ≡ pre ++ first ∷ others = cc in none_such f P first never pre others es rest a.1
