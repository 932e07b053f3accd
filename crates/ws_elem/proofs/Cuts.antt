-- Parts of a tree.
use Rattle.std.proofs.Common.{◌≡◌, Bool, true, false, cond, not, ◌&&◌, ◌||◌, List, [], ◌∷◌, map, T, refl, sym, ap, ◌∙◌}
use Rattle.std.specs.Prelude.{Option, Some, None, is_some, filter, find as find_first}
use Rattle.std.specs.declared.cmp.Ordering.{Ordering}
use Rattle.std.specs.declared.cmp.Ordering.TheVariants.{Less, Equal, Greater}
use Rattle.std.specs.declared.ops.Bound.TheVariants.{Included, Excluded, Unbounded}
use Rattle.std.specs.BTreeMap.Range.{range_contains}
use Rattle.std.specs.FinMap.{get, remove, keys, is_sorted, get-remove, get-retain_keys, contains_key-keys, same_map}
use Rattle.std.specs.FinMap.Entries.{below_all}
use Rattle.std.specs.List.{list_any}
use Rattle.std.specs.Map.Iter.{TakesFirst, deref_pair}
use Rattle.std.specs.Option.{option_map}
use Rattle.std.specs.Ordering.{eq_by_cmp, is_eq, is_gt, is_le, is_lt}
use denote.Ref.{Bor}
use Rattle.res_path.specs.Paths.{Names, path_cmp, is_prefix}
use Rattle.res_path.specs.PathLaws.{path_cmp_total}
use Rattle.res_path.proofs.Prefixes.{path_cmp_exact, prefix_le, prefix_between}
use Rattle.ws_elem.specs.declared.element.Element.{Element}
use Rattle.ws_elem.specs.Trees.{Tree, paths_below, without}
use Rattle.ws_elem.specs.Inside.Walks.{first_below, without_all}

-- ---- the first entry above a path

abbrev head : {X : Type 0} → List X → Option X
head [] = None
head (x ∷ xs) = Some x

head_filter : {X : Type 0} (test : X → Bool) (xs : List X) → head (filter test xs) ≡ find_first test xs
head_filter test [] = refl
head_filter test (x ∷ xs) = by (test x) (head_filter test xs)
  where
    by : (b : Bool) → head (filter test xs) ≡ find_first test xs → head (cond b (x ∷ filter test xs) (filter test xs)) ≡ cond b (Some x) (find_first test xs)
    by true h = refl
    by false h = h

and_true : (b : Bool) → (b && true) ≡ b
and_true true = refl
and_true false = refl

filter_same : {X : Type 0} (f g : X → Bool) → ((x : X) → f x ≡ g x) → (xs : List X) → filter f xs ≡ filter g xs
filter_same f g h [] = refl
filter_same f g h (x ∷ xs) = λ i. cond (h x i) (x ∷ filter_same f g h xs i) (filter_same f g h xs i)

taken : (s : List (Names × Element)) (r : Option (Bor Names × Bor Element)) (t : List (Names × Element)) → TakesFirst deref_pair s r t → option_map deref_pair r ≡ head s
taken s None t h = sym (ap head h.0)
taken s (Some x) t h = sym (ap head h)

pub next_is : (p : Names) (es s : List (Names × Element)) (r : Option (Bor Names × Bor Element)) (t : List (Names × Element))
    → s ≡ filter (λ e. range_contains path_cmp (Excluded p) Unbounded e.0) es → TakesFirst deref_pair s r t → option_map deref_pair r ≡ find_first (λ e. is_lt (path_cmp p e.0)) es
next_is p es s r t h g =
    taken s r t g ∙ ap head (h ∙ filter_same _ _ (λ e. and_true (is_lt (path_cmp p e.0))) es) ∙ head_filter (λ e. is_lt (path_cmp p e.0)) es

-- ---- the paths at or below one

first : (a b : Bool) → T (a && b) → T a
first true b h = tt
first false b h = h

second : (a b : Bool) → T (a && b) → T b
second true b h = h
second false b h = absurd h

not_above : (o : Ordering) → T (is_lt o) → is_gt o ≡ false
not_above Less h = refl
not_above Equal h = absurd h
not_above Greater h = absurd h

at_least : (o : Ordering) → is_gt o ≡ false → is_le o ≡ true
at_least Less h = refl
at_least Equal h = refl
at_least Greater h = cc

not_greater : (o : Ordering) → is_le o ≡ true → is_gt o ≡ false
not_greater Less h = refl
not_greater Equal h = refl
not_greater Greater h = cc

never : true ≡ false → ⊥
never h = cc

-- above an entry that is above p and not below it, nothing is below p
none_below : (p q : Names) (es : List (Names × Element)) → is_gt (path_cmp p q) ≡ false → is_prefix p q ≡ false → T (below_all path_cmp q es) → [] ≡ filter (is_prefix p) (map (λ e. e.0) es)
none_below p q [] h g s = refl
none_below p q (e ∷ es) h g s = by (is_prefix p e.0) refl (none_below p q es h g (second _ _ s))
  where
    by : (b : Bool) → is_prefix p e.0 ≡ b → [] ≡ filter (is_prefix p) (map (λ e. e.0) es) → [] ≡ cond b (e.0 ∷ filter (is_prefix p) (map (λ e. e.0) es)) (filter (is_prefix p) (map (λ e. e.0) es))
    by true f rest = absurd (never (sym (prefix_between p q e.0 h (not_above _ (first _ _ s)) f) ∙ g))
    by false f rest = rest

abbrev from : Names → List (Names × Element) → List (Names × Element)
from p es = filter (λ e. is_le (path_cmp p e.0)) es

below_from : (p : Names) (es : List (Names × Element)) → T (is_sorted path_cmp es) → first_below p (from p es) ≡ filter (is_prefix p) (map (λ e. e.0) es)
below_from p [] s = refl
below_from p (e ∷ es) s = by (is_prefix p e.0) refl (below_from p es (second _ _ s))
  where
    keys_left : List Names
    keys_left = filter (is_prefix p) (map (λ e. e.0) es)

    outside : is_prefix p e.0 ≡ false → first_below p (from p es) ≡ filter (is_prefix p) (map (λ e. e.0) es) → (c : Bool) → is_le (path_cmp p e.0) ≡ c
        → first_below p (cond c (e ∷ from p es) (from p es)) ≡ filter (is_prefix p) (map (λ e. e.0) es)
    outside f rest true l = ap (λ b. cond b (e.0 ∷ first_below p (from p es)) []) f ∙ none_below p e.0 es (not_greater _ l) f (first _ _ s)
    outside f rest false l = rest

    by : (b : Bool) → is_prefix p e.0 ≡ b → first_below p (from p es) ≡ filter (is_prefix p) (map (λ e. e.0) es)
        → first_below p (from p (e ∷ es)) ≡ cond b (e.0 ∷ filter (is_prefix p) (map (λ e. e.0) es)) (filter (is_prefix p) (map (λ e. e.0) es))
    by true f rest =
        ap (λ c. first_below p (cond c (e ∷ from p es) (from p es))) (at_least _ (prefix_le p e.0 f))
        ∙ ap (λ b. cond b (e.0 ∷ first_below p (from p es)) []) f ∙ ap (λ ps. e.0 ∷ ps) rest
    by false f rest = outside f rest (is_le (path_cmp p e.0)) refl

pub below_is : (p : Names) (es s : List (Names × Element)) → T (is_sorted path_cmp es) → s ≡ filter (λ e. range_contains path_cmp (Included p) Unbounded e.0) es
    → first_below p s ≡ filter (is_prefix p) (map (λ e. e.0) es)
below_is p es s o h = ap (first_below p) (h ∙ filter_same _ _ (λ e. and_true (is_le (path_cmp p e.0))) es) ∙ below_from p es o

-- ---- without what is at some paths

turned : (a b : Bool) (x y : Option Element) → x ≡ cond b None y → cond a None x ≡ cond (b || a) None y
turned true true x y h = refl
turned true false x y h = refl
turned false true x y h = h
turned false false x y h = h

get-without_all : (t : Tree) (ps : List Names) (q : Names) → get (without_all t ps) q ≡ cond (list_any (eq_by_cmp path_cmp q) ps) None (get t q)
get-without_all t [] q = refl
get-without_all t (p ∷ ps) q =
    get-without_all (remove t p) ps q ∙ turned (list_any (eq_by_cmp path_cmp q) ps) (eq_by_cmp path_cmp q p) _ (get t q) (get-remove path_cmp_total t p q)

tied : (o : Ordering) → is_eq o ≡ true → o ≡ Equal
tied Less h = cc
tied Equal h = refl
tied Greater h = cc

pub same_at : (q x : Names) → eq_by_cmp path_cmp q x ≡ true → q ≡ x
same_at q x h = path_cmp_exact q x (tied _ h)

pub any_filter : (f : Names → Bool) (q : Names) (ps : List Names) → list_any (eq_by_cmp path_cmp q) (filter f ps) ≡ (f q && list_any (eq_by_cmp path_cmp q) ps)
any_filter f q [] = and_false (f q)
  where
    and_false : (b : Bool) → false ≡ (b && false)
    and_false true = refl
    and_false false = refl
any_filter f q (p ∷ ps) = by (f p) refl (eq_by_cmp path_cmp q p) refl (any_filter f q ps)
  where
    rest : Bool
    rest = list_any (eq_by_cmp path_cmp q) ps

    by : (b : Bool) → f p ≡ b → (e : Bool) → eq_by_cmp path_cmp q p ≡ e → list_any (eq_by_cmp path_cmp q) (filter f ps) ≡ (f q && list_any (eq_by_cmp path_cmp q) ps)
        → list_any (eq_by_cmp path_cmp q) (cond b (p ∷ filter f ps) (filter f ps)) ≡ (f q && (e || list_any (eq_by_cmp path_cmp q) ps))
    by true i true j h = ap (λ e. e || list_any (eq_by_cmp path_cmp q) (filter f ps)) j ∙ sym (ap (λ b. b && true) (ap f (same_at q p j) ∙ i))
    by true i false j h = ap (λ e. e || list_any (eq_by_cmp path_cmp q) (filter f ps)) j ∙ h
    by false i true j h = h ∙ (λ k. at_q k && list_any (eq_by_cmp path_cmp q) ps) ∙ sym (ap (λ b. b && true) at_q)
      where
        at_q : f q ≡ false
        at_q = ap f (same_at q p j) ∙ i
    by false i false j h = h

pub without_is : (t : Tree) (p : Names) → without_all t (paths_below t p) ≡ without t p
without_is t p = same_map path_cmp_total path_cmp_exact _ _ (λ q.
    get-without_all t (paths_below t p) q
    ∙ ap (λ b. cond b None (get t q)) (any_filter (is_prefix p) q (keys t) ∙ ap (λ b. is_prefix p q && b) (sym (contains_key-keys t q)))
    ∙ by q (is_prefix p q) (get t q)
    ∙ sym (get-retain_keys t (λ x. not (is_prefix p x)) q (λ x h. ap (λ y. not (is_prefix p y)) (sym (path_cmp_exact q x h)))))
  where
    by : (q : Names) (b : Bool) (x : Option Element) → cond (b && is_some x) None x ≡ cond (not b) x None
    by q true None = refl
    by q true (Some e) = refl
    by q false x = refl
