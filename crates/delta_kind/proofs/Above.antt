-- What is above a path.
use Rattle.std.proofs.Common.{◌≡◌, ℕ, ◌<◌, Bool, true, false, cond, not, ◌&&◌, ◌||◌, List, [], ◌∷◌, ◌++◌, length, map, refl, sym, ap, ◌∙◌, subst, arith}
use Rattle.std.specs.Prelude.{Option, Some, None, filter}
use Rattle.std.specs.declared.cmp.Ordering.TheVariants.{Less}
use Rattle.std.specs.Cmp.Lexicographic.{bytes_decides, nat_list_cmp_total}
use Rattle.std.specs.List.{AllByRecursion, list_any}
use Rattle.std.specs.Ordering.{eq_by_cmp, ordering_then}
use Rattle.std.specs.Str.{bytes_eq}
use Rattle.std.proofs.lemmas.Cmp.{tied_itself}
use Rattle.res_path.specs.Paths.{Names, path_cmp, is_prefix, parent, parent_of}
use Rattle.res_path.specs.PathLaws.{path_ties}
use Rattle.delta_kind.specs.Deltas.{above}
use Rattle.delta_kind.specs.Inside.Passes.{is_above, new_above, untouched}
use Rattle.delta_kind.proofs.Rising.{Rises}

-- ---- they rise, below the path

same_front : (n : List ℕ) (p q : Names) → path_cmp (n ∷ p) (n ∷ q) ≡ path_cmp p q
same_front n p q = ap (λ o. ordering_then o (path_cmp p q)) (tied_itself nat_list_cmp_total n)

deeper_rise : (n : List ℕ) (l : Names) (ps : List Names) → Rises (Some l) ps → Rises (Some (n ∷ l)) (map (λ q. n ∷ q) ps)
deeper_rise n l [] h = tt
deeper_rise n l (p ∷ ps) h = (same_front n l p ∙ h.0, deeper_rise n p ps h.1)

below_root : (n : List ℕ) (ps : List Names) → Rises None ps → Rises (Some []) (map (λ q. n ∷ q) ps)
below_root n [] h = tt
below_root n (p ∷ ps) h = (refl, deeper_rise n p ps h.1)

pub above_rises : (p : Names) → Rises None (above p)
above_rises [] = tt
above_rises (n ∷ p) = (tt, below_root n (above p) (above_rises p))

deeper_less : (n : List ℕ) (p : Names) (ps : List Names) → AllByRecursion (λ q. path_cmp q p ≡ Less) ps → AllByRecursion (λ q. path_cmp q (n ∷ p) ≡ Less) (map (λ q. n ∷ q) ps)
deeper_less n p [] h = tt
deeper_less n p (q ∷ ps) h = (same_front n q p ∙ h.0, deeper_less n p ps h.1)

pub above_less : (p : Names) → AllByRecursion (λ q. path_cmp q p ≡ Less) (above p)
above_less [] = tt
above_less (n ∷ p) = (refl, deeper_less n p (above p) (above_less p))

deeper_prefix : (n : List ℕ) (p : Names) (ps : List Names) → AllByRecursion (λ q. is_prefix q p ≡ true) ps → AllByRecursion (λ q. is_prefix q (n ∷ p) ≡ true) (map (λ q. n ∷ q) ps)
deeper_prefix n p [] h = tt
deeper_prefix n p (q ∷ ps) h = (ap (λ b. b && is_prefix q p) ((bytes_decides n n).1 refl) ∙ h.0, deeper_prefix n p ps h.1)

pub above_prefix : (p : Names) → AllByRecursion (λ q. is_prefix q p ≡ true) (above p)
above_prefix [] = tt
above_prefix (n ∷ p) = (refl, deeper_prefix n p (above p) (above_prefix p))

-- ---- the prefixes of a path are what is above it, and itself

names_alike : (m n : List ℕ) (q p : Names) → eq_by_cmp path_cmp (m ∷ q) (n ∷ p) ≡ (bytes_eq m n && eq_by_cmp path_cmp q p)
names_alike m n q p = sym (path_ties (m ∷ q) (n ∷ p)) ∙ ap (λ b. bytes_eq m n && b) (path_ties q p)

and_or : (a b c : Bool) → (a && (b || c)) ≡ ((a && b) || (a && c))
and_or true b c = refl
and_or false b c = refl

and_false : (a : Bool) → false ≡ (a && false)
and_false true = refl
and_false false = refl

any_deeper : (m n : List ℕ) (q : Names) (ps : List Names) → list_any (eq_by_cmp path_cmp (m ∷ q)) (map (λ p. n ∷ p) ps) ≡ (bytes_eq m n && list_any (eq_by_cmp path_cmp q) ps)
any_deeper m n q [] = and_false (bytes_eq m n)
any_deeper m n q (p ∷ ps) =
    (λ i. names_alike m n q p i || any_deeper m n q ps i) ∙ sym (and_or (bytes_eq m n) (eq_by_cmp path_cmp q p) (list_any (eq_by_cmp path_cmp q) ps))

pub prefix_is : (q p : Names) → is_prefix q p ≡ (list_any (eq_by_cmp path_cmp q) (above p) || eq_by_cmp path_cmp q p)
prefix_is [] [] = refl
prefix_is [] (n ∷ p) = refl
prefix_is (m ∷ q) [] = refl
prefix_is (m ∷ q) (n ∷ p) =
    ap (λ b. bytes_eq m n && b) (prefix_is q p) ∙ and_or (bytes_eq m n) (list_any (eq_by_cmp path_cmp q) (above p)) (eq_by_cmp path_cmp q p)
    ∙ sym (λ i. any_deeper m n q (above p) i || names_alike m n q p i)

-- ---- step by step, from the parent

pub parent_shorter : (p q : Names) → parent_of p ≡ Some q → length q < length p
parent_shorter [] q h = cc
parent_shorter (n ∷ p) q h = subst (λ r. length r < length (n ∷ p)) (some_path h) (shorter n p)
  where
    some_path : {r q : Names} → Some r ≡ Some q → r ≡ q
    some_path h = cc

    shorter : (n : List ℕ) (p : Names) → length (parent (n ∷ p)) < length (n ∷ p)
    shorter n [] = omega arith
    shorter n (m ∷ p) = let rest = shorter m p in omega arith

above_step : (n : List ℕ) (p : Names) → above (n ∷ p) ≡ above (parent (n ∷ p)) ++ parent (n ∷ p) ∷ []
above_step n [] = refl
above_step n (m ∷ p) = ap (λ ps. [] ∷ map (λ q. n ∷ q) ps) (above_step m p) ∙ ap (λ ps. [] ∷ ps) (deeper_push (above (parent (m ∷ p))))
  where
    deeper_push : (ps : List Names) → map (λ q. n ∷ q) (ps ++ parent (m ∷ p) ∷ []) ≡ map (λ q. n ∷ q) ps ++ (n ∷ parent (m ∷ p)) ∷ []
    deeper_push [] = refl
    deeper_push (q ∷ ps) = ap (λ qs. (n ∷ q) ∷ qs) (deeper_push ps)

pub above_parent : (p q : Names) → parent_of p ≡ Some q → above p ≡ above q ++ q ∷ []
above_parent [] q h = cc
above_parent (n ∷ p) q h = above_step n p ∙ (λ i. above (some_path h i) ++ some_path h i ∷ [])
  where
    some_path : {r q : Names} → Some r ≡ Some q → r ≡ q
    some_path h = cc

filter_push : (f : Names → Bool) (ps : List Names) (q : Names) → filter f (ps ++ q ∷ []) ≡ filter f ps ++ cond (f q) (q ∷ []) []
filter_push f [] q = refl
filter_push f (p ∷ ps) q = by (f p) (filter_push f ps q)
  where
    by : (b : Bool) → filter f (ps ++ q ∷ []) ≡ filter f ps ++ cond (f q) (q ∷ []) [] → cond b (p ∷ filter f (ps ++ q ∷ [])) (filter f (ps ++ q ∷ [])) ≡ cond b (p ∷ filter f ps) (filter f ps) ++ cond (f q) (q ∷ []) []
    by true h = ap (λ ps. p ∷ ps) h
    by false h = h

prefix_trans : (p q r : Names) → is_prefix p q ≡ true → is_prefix q r ≡ true → is_prefix p r ≡ true
prefix_trans [] q r h g = refl
prefix_trans (n ∷ p) [] r h g = cc
prefix_trans (n ∷ p) (m ∷ q) [] h g = cc
prefix_trans (n ∷ p) (m ∷ q) (k ∷ r) h g =
    let one = parts (bytes_eq n m) (is_prefix p q) h in
    let two = parts (bytes_eq m k) (is_prefix q r) g in
    ap (λ b. b && is_prefix p r) ((bytes_decides n k).1 ((bytes_decides n m).0 one.0 ∙ (bytes_decides m k).0 two.0)) ∙ prefix_trans p q r one.1 two.1
  where
    parts : (a b : Bool) → (a && b) ≡ true → (a ≡ true) × (b ≡ true)
    parts true b h = (refl, h)
    parts false b h = cc

none_kept : (f : Names → Bool) (ps : List Names) → AllByRecursion (λ q. f q ≡ false) ps → filter f ps ≡ []
none_kept f [] h = refl
none_kept f (p ∷ ps) h = ap (λ b. cond b (p ∷ filter f ps) (filter f ps)) h.0 ∙ none_kept f ps h.1

all_known : (last : Option Names) (q : Names) (ps : List Names) → is_above q last ≡ true → AllByRecursion (λ p. is_prefix p q ≡ true) ps → AllByRecursion (λ p. not (is_above p last) ≡ false) ps
all_known last q [] h g = tt
all_known last q (p ∷ ps) h g = (ap not (by last h), all_known last q ps h g.1)
  where
    by : (last : Option Names) → is_above q last ≡ true → is_above p last ≡ true
    by None h = cc
    by (Some l) h = prefix_trans p q l g.0 h

pub new_none : (last : Option Names) → new_above last [] ≡ []
new_none last = refl

-- where the parent is above the last path, so is all above it
new_known : (last : Option Names) (p q : Names) → parent_of p ≡ Some q → is_above q last ≡ true → new_above last p ≡ []
new_known last p q h g =
    ap (filter (λ r. not (is_above r last))) (above_parent p q h) ∙ filter_push (λ r. not (is_above r last)) (above q) q
    ∙ (λ i. none_kept (λ r. not (is_above r last)) (above q) (all_known last q (above q) g (above_prefix q)) i ++ cond (not (g i)) (q ∷ []) [])

-- the same of the root's parent too, which stands for the root
pub new_below : (last : Option Names) (p : Names) → is_above (parent p) last ≡ true → new_above last p ≡ []
new_below last [] g = refl
new_below last (n ∷ p) g = new_known last (n ∷ p) (parent (n ∷ p)) refl g

-- a parent is the path without its last name
pub parent_is : (p q : Names) → parent_of p ≡ Some q → parent p ≡ q
parent_is [] q h = cc
parent_is (n ∷ p) q h = cc

pub new_more : (last : Option Names) (p q : Names) → parent_of p ≡ Some q → is_above q last ≡ false → new_above last p ≡ new_above last q ++ q ∷ []
new_more last p q h g =
    ap (filter (λ r. not (is_above r last))) (above_parent p q h) ∙ filter_push (λ r. not (is_above r last)) (above q) q
    ∙ ap (λ b. new_above last q ++ cond (not b) (q ∷ []) []) g

pub untouched_push : (ps : List Names) (p : Names) → map untouched (ps ++ p ∷ []) ≡ map untouched ps ++ untouched p ∷ []
untouched_push [] p = refl
untouched_push (q ∷ ps) p = ap (λ nodes. untouched q ∷ nodes) (untouched_push ps p)
