-- Walking a branch of a tree from entry to entry.
use Rattle.std.proofs.Common.{◌≡◌, ◌<◌, Bool, true, false, cond, not, ◌&&◌, [], ◌∷◌, ◌++◌, length, T, refl, sym, ap, ◌∙◌, subst, arith}
use Rattle.std.specs.Prelude.{Option, Some, None, filter, find as find_first}
use Rattle.std.specs.declared.cmp.Ordering.{Ordering}
use Rattle.std.specs.declared.cmp.Ordering.TheVariants.{Less, Equal, Greater}
use Rattle.std.specs.Cmp.Lexicographic.{bytes_decides}
use Rattle.std.specs.Ordering.{eq_by_cmp, is_eq, is_gt, is_lt, ordering_reverse}
use Rattle.std.specs.FinMap.{get, entries, entries_sorted, find, is_sorted, get-entries}
use Rattle.std.specs.FinMap.Entries.{below_all}
use Rattle.res_path.specs.Paths.{Names, path_cmp, is_prefix}
use Rattle.res_path.specs.PathLaws.{path_cmp_total}
use Rattle.res_path.proofs.Prefixes.{path_cmp_exact, path_itself, prefix_le, prefix_between}
use Rattle.ws_elem.specs.declared.element.Element.{Element}
use Rattle.ws_elem.specs.Trees.{Tree, entry_after, branch}
use Rattle.op_kind.specs.Entries.{Entries}
use Rattle.op_kind.specs.Members.{found_at, is_below, members}
use Rattle.op_plan.specs.Inside.Walks.{entries_after, members_after}

never : {A : Type 0} → true ≡ false → A
never h = cc

first : (a b : Bool) → T (a && b) → T a
first true b h = tt
first false b h = h

second : (a b : Bool) → T (a && b) → T b
second true b h = h
second false b h = absurd h

less : (o : Ordering) → T (is_lt o) → o ≡ Less
less Less h = refl
less Equal h = absurd h
less Greater h = absurd h

is_less : (o : Ordering) → o ≡ Less → T (is_lt o)
is_less o h = subst (λ x. T (is_lt x)) (sym h) tt

lt_true : (o : Ordering) → T (is_lt o) → is_lt o ≡ true
lt_true Less h = refl
lt_true Equal h = absurd h
lt_true Greater h = absurd h

as_lt : (b : Bool) → b ≡ true → T b
as_lt b h = subst T (sym h) tt

abbrev above : Names → Entries → Entries
above p es = filter (λ e. is_lt (path_cmp p e.0)) es

-- ---- entries in order

later : (p q : Names) (es : Entries) → path_cmp p q ≡ Less → T (below_all path_cmp q es) → T (below_all path_cmp p es)
later p q [] l h = tt
later p q (e ∷ es) l h = both _ _ (is_less _ (path_cmp_total.trans p q e.0 l (less _ (first _ _ h)))) (later p q es l (second _ _ h))
  where
    both : (a b : Bool) → T a → T b → T (a && b)
    both true b x y = y
    both false b x y = x

all_above : (p : Names) (es : Entries) → T (below_all path_cmp p es) → above p es ≡ es
all_above p [] h = refl
all_above p (e ∷ es) h = ap (λ b. cond b (e ∷ above p es) (above p es)) (lt_true _ (first _ _ h)) ∙ ap (λ xs. e ∷ xs) (all_above p es (second _ _ h))

first_above : (q p : Names) (es : Entries) (x : Names × Element) (xs : Entries) → T (below_all path_cmp q es) → above p es ≡ x ∷ xs → path_cmp q x.0 ≡ Less
first_above q p [] x xs h is = absurd (let no : [] ≡ x ∷ xs = is in cc)
first_above q p (e ∷ es) x xs h is = by (is_lt (path_cmp p e.0)) is (first_above q p es x xs (second _ _ h))
  where
    by : (b : Bool) → cond b (e ∷ above p es) (above p es) ≡ x ∷ xs → (above p es ≡ x ∷ xs → path_cmp q x.0 ≡ Less) → path_cmp q x.0 ≡ Less
    by true g rest = let same : e ≡ x = cc in subst (λ y. path_cmp q y.0 ≡ Less) same (less _ (first _ _ h))
    by false g rest = rest g

not_back : (p q : Names) → path_cmp p q ≡ Less → is_lt (path_cmp q p) ≡ false
not_back p q l = ap is_lt (path_cmp_total.antisymm q p ∙ ap ordering_reverse l)

not_itself : (p : Names) → is_lt (path_cmp p p) ≡ false
not_itself p = ap is_lt (path_itself p)

-- what is above the first entry above p are the others
above_first : (p : Names) (es : Entries) (x : Names × Element) (xs : Entries) → T (is_sorted path_cmp es) → above p es ≡ x ∷ xs → above x.0 es ≡ xs
above_first p [] x xs s is = absurd (let no : [] ≡ x ∷ xs = is in cc)
above_first p (e ∷ es) x xs s is = by (is_lt (path_cmp p e.0)) refl is (above_first p es x xs (second _ _ s))
  where
    by : (b : Bool) → is_lt (path_cmp p e.0) ≡ b → cond b (e ∷ above p es) (above p es) ≡ x ∷ xs → (above p es ≡ x ∷ xs → above x.0 es ≡ xs) → above x.0 (e ∷ es) ≡ xs
    by true l g rest_is =
        let same : e ≡ x = cc in
        let rest : above p es ≡ xs = cc in
        ap (λ y. above y.0 (e ∷ es)) (sym same)
        ∙ ap (λ b. cond b (e ∷ above e.0 es) (above e.0 es)) (not_itself e.0)
        ∙ all_above e.0 es (first _ _ s)
        ∙ sym (all_above p es (later p e.0 es (less _ (as_lt _ l)) (first _ _ s)))
        ∙ rest
    by false l g rest_is =
        ap (λ b. cond b (e ∷ above x.0 es) (above x.0 es)) (not_back e.0 x.0 (first_above e.0 p es x xs (first _ _ s) g))
        ∙ rest_is g

below_above : (p : Names) (es : Entries) → T (below_all path_cmp p (above p es))
below_above p [] = tt
below_above p (e ∷ es) = by (is_lt (path_cmp p e.0)) refl (below_above p es)
  where
    both : (a b : Bool) → T a → T b → T (a && b)
    both true b x y = y
    both false b x y = x

    by : (b : Bool) → is_lt (path_cmp p e.0) ≡ b → T (below_all path_cmp p (above p es)) → T (below_all path_cmp p (cond b (e ∷ above p es) (above p es)))
    by true l rest = both _ _ (as_lt _ l) rest
    by false l rest = rest

-- ---- what is below a path

not_greater : (o : Ordering) → o ≡ Less → is_gt o ≡ false
not_greater o h = ap is_gt h

both_equal : (o : Ordering) → is_gt o ≡ false → is_gt (ordering_reverse o) ≡ false → o ≡ Equal
both_equal Less h g = never g
both_equal Equal h g = refl
both_equal Greater h g = never h

prefix_both : (p q : Names) → is_prefix p q ≡ true → is_prefix q p ≡ true → p ≡ q
prefix_both p q h g = path_cmp_exact p q (both_equal (path_cmp p q) (prefix_le p q h) (sym (ap is_gt (path_cmp_total.antisymm q p)) ∙ prefix_le q p g))

not_under : (p q : Names) → is_prefix p q ≡ false → is_below p q ≡ false
not_under p q h = ap (λ b. b && not (is_prefix q p)) h

-- what is above p and begins with it is below it
pub under : (p q : Names) → path_cmp p q ≡ Less → is_prefix p q ≡ true → is_below p q ≡ true
under p q l h = ap (λ b. b && not (is_prefix q p)) h ∙ by (is_prefix q p) refl
  where
    by : (b : Bool) → is_prefix q p ≡ b → not b ≡ true
    by false g = refl
    by true g = never (sym (ap is_lt l) ∙ (ap (λ r. is_lt (path_cmp p r)) (sym (prefix_both p q h g)) ∙ not_itself p))

none_left : (p q : Names) (es : Entries) → is_gt (path_cmp p q) ≡ false → is_prefix p q ≡ false → T (below_all path_cmp q es) → filter (λ e. is_below p e.0) es ≡ []
none_left p q [] h g s = refl
none_left p q (e ∷ es) h g s =
    ap (λ b. cond b (e ∷ filter (λ x. is_below p x.0) es) (filter (λ x. is_below p x.0) es)) (not_under p e.0 (by (is_prefix p e.0) refl))
    ∙ none_left p q es h g (second _ _ s)
  where
    by : (b : Bool) → is_prefix p e.0 ≡ b → is_prefix p e.0 ≡ false
    by false f = f
    by true f = never (sym (prefix_between p q e.0 h (not_greater _ (less _ (first _ _ s))) f) ∙ g)

-- ---- from entry to entry

head : Entries → Option (Names × Element)
head [] = None
head (e ∷ es) = Some e

head_filter : (test : Names × Element → Bool) (es : Entries) → find_first test es ≡ head (filter test es)
unfolding head
head_filter test [] = refl
head_filter test (e ∷ es) = by (test e) (head_filter test es)
  where
    by : (b : Bool) → find_first test es ≡ head (filter test es) → cond b (Some e) (find_first test es) ≡ head (cond b (e ∷ filter test es) (filter test es))
    by true h = refl
    by false h = h

sorted : (t : Tree) → T (is_sorted path_cmp (entries t))
sorted t = entries_sorted t

stepped : (es : Entries) (p : Names) (x : Names × Element) (ys : Entries) → T (is_sorted path_cmp es) → above p es ≡ ys → head ys ≡ Some x → above p es ≡ x ∷ above x.0 es
unfolding head
stepped es p x [] s is h = absurd (let no : None ≡ Some x = h in cc)
stepped es p x (y ∷ ys) s is h =
    let same : y ≡ x = cc in
    is ∙ ap (λ zs. y ∷ zs) (sym (above_first p es y ys s is)) ∙ ap (λ z. z ∷ above z.0 es) same

pub after_step : (t : Tree) (p : Names) (x : Names × Element) → entry_after t p ≡ Some x → entries_after t p ≡ x ∷ entries_after t x.0
after_step t p x h = stepped (entries t) p x (above p (entries t)) (sorted t) refl (sym (head_filter (λ e. is_lt (path_cmp p e.0)) (entries t)) ∙ h)

ended : (ys : Entries) → head ys ≡ None → ys ≡ []
unfolding head
ended [] h = refl
ended (y ∷ ys) h = absurd (let no : Some y ≡ None = h in cc)

pub after_end : (t : Tree) (p : Names) → entry_after t p ≡ None → entries_after t p ≡ []
after_end t p h = ended (above p (entries t)) (sym (head_filter (λ e. is_lt (path_cmp p e.0)) (entries t)) ∙ h)

-- the walk gets shorter
pub after_shorter : (t : Tree) (p : Names) (x : Names × Element) → entry_after t p ≡ Some x → length (entries_after t x.0) < length (entries_after t p)
after_shorter t p x h = let e : length (entries_after t p) ≡ length (x ∷ entries_after t x.0) = ap length (after_step t p x h) in omega arith

le_less : (p q r : Names) → is_gt (path_cmp p q) ≡ false → path_cmp q r ≡ Less → path_cmp p r ≡ Less
le_less p q r g l = by (path_cmp p q) refl g
  where
    by : (o : Ordering) → path_cmp p q ≡ o → is_gt o ≡ false → path_cmp p r ≡ Less
    by Less e h = path_cmp_total.trans p q r e l
    by Equal e h = ap (λ z. path_cmp z r) (path_cmp_exact p q e) ∙ l
    by Greater e h = never h

-- the first entry above p is above it
first_later : (t : Tree) (p : Names) (x : Names × Element) → entry_after t p ≡ Some x → path_cmp p x.0 ≡ Less
first_later t p x h = less _ (first _ _ (subst (λ es. T (below_all path_cmp p es)) (after_step t p x h) (below_above p (entries t))))

pub members_step : (t : Tree) (top p : Names) (x : Names × Element) → entry_after t p ≡ Some x → is_prefix top p ≡ true → is_prefix top x.0 ≡ true
    → members_after t top p ≡ x ∷ members_after t top x.0
members_step t top p x h g f =
    ap (filter (λ e. is_below top e.0)) (after_step t p x h)
    ∙ ap (λ b. cond b (x ∷ members_after t top x.0) (members_after t top x.0)) (under top x.0 (le_less top p x.0 (prefix_le top p g) (first_later t p x h)) f)

pub members_end : (t : Tree) (top p : Names) (x : Names × Element) → entry_after t p ≡ Some x → is_prefix top p ≡ true → is_prefix top x.0 ≡ false
    → members_after t top p ≡ []
members_end t top p x h g f =
    ap (filter (λ e. is_below top e.0)) (after_step t p x h)
    ∙ ap (λ b. cond b (x ∷ members_after t top x.0) (members_after t top x.0)) (not_under top x.0 f)
    ∙ none_left top x.0 (entries_after t x.0) (not_greater _ (le_less top p x.0 (prefix_le top p g) (first_later t p x h))) f (below_above x.0 (entries t))

pub members_none : (t : Tree) (top p : Names) → entry_after t p ≡ None → members_after t top p ≡ []
members_none t top p h = ap (filter (λ e. is_below top e.0)) (after_end t p h)

-- what is below p is above it
below_later : (p q : Names) → is_below p q ≡ true → is_lt (path_cmp p q) ≡ true
below_later p q h = by (path_cmp p q) refl (prefix_le p q (front (is_prefix p q) _ h))
  where
    front : (a b : Bool) → (a && b) ≡ true → a ≡ true
    front true b g = refl
    front false b g = never (sym g)

    back : (a b : Bool) → (a && b) ≡ true → b ≡ true
    back true b g = g
    back false b g = never (sym g)

    by : (o : Ordering) → path_cmp p q ≡ o → is_gt (path_cmp p q) ≡ false → is_lt (path_cmp p q) ≡ true
    by Less e g = ap is_lt e
    by Equal e g =
        let same : p ≡ q = path_cmp_exact p q e in
        let other : q ≡ p = sym same in
        let flip : is_prefix p q ≡ is_prefix q p = λ i. is_prefix (same i) (other i) in
        let itself : is_prefix q p ≡ true = sym flip ∙ front (is_prefix p q) (not (is_prefix q p)) h in
        never (sym (back (is_prefix p q) _ h) ∙ ap not itself)
    by Greater e g = never (sym (ap is_gt e) ∙ g)

filter_twice : (f g : Names × Element → Bool) (es : Entries) → ((e : Names × Element) → f e ≡ true → g e ≡ true) → filter f (filter g es) ≡ filter f es
filter_twice f g [] h = refl
filter_twice f g (e ∷ es) h = by (g e) refl (f e) refl (filter_twice f g es h)
  where
    by : (b : Bool) → g e ≡ b → (c : Bool) → f e ≡ c → filter f (filter g es) ≡ filter f es
        → filter f (cond b (e ∷ filter g es) (filter g es)) ≡ cond c (e ∷ filter f es) (filter f es)
    by true i true j rest = ap (λ b. cond b (e ∷ filter f (filter g es)) (filter f (filter g es))) j ∙ ap (λ xs. e ∷ xs) rest
    by true i false j rest = ap (λ b. cond b (e ∷ filter f (filter g es)) (filter f (filter g es))) j ∙ rest
    by false i true j rest = never (sym (h e j) ∙ i)
    by false i false j rest = rest

pub members_start : (t : Tree) (p : Names) → members_after t p p ≡ members t p
members_start t p = filter_twice (λ e. is_below p e.0) (λ e. is_lt (path_cmp p e.0)) (entries t) (λ e h. below_later p e.0 h)

-- ---- what is at a path, and what is below it

at_or_below : (p q : Names) → eq_by_cmp path_cmp p q ≡ false → is_prefix p q ≡ is_below p q
at_or_below p q h = by (is_prefix p q) refl (is_prefix q p) refl
  where
    by : (b : Bool) → is_prefix p q ≡ b → (c : Bool) → is_prefix q p ≡ c → is_prefix p q ≡ (is_prefix p q && not (is_prefix q p))
    by true i true j = never (sym (ap is_eq (ap (λ z. path_cmp p z) (sym (prefix_both p q i j)) ∙ path_itself p)) ∙ h)
    by true i false j = i ∙ sym (ap (λ b. b && not (is_prefix q p)) i ∙ ap not j)
    by false i c j = i ∙ sym (ap (λ b. b && not (is_prefix q p)) i)

nothing_more : (p : Names) (es : Entries) → T (below_all path_cmp p es) → filter (λ e. is_prefix p e.0) es ≡ filter (λ e. is_below p e.0) es
nothing_more p [] h = refl
nothing_more p (e ∷ es) h =
    ap (λ b. cond b (e ∷ filter (λ x. is_prefix p x.0) es) (filter (λ x. is_prefix p x.0) es)) (at_or_below p e.0 (ap is_eq (less _ (first _ _ h))))
    ∙ ap (λ xs. cond (is_below p e.0) (e ∷ xs) xs) (nothing_more p es (second _ _ h))

not_there : (p : Names) (es : Entries) → T (below_all path_cmp p es) → find path_cmp p es ≡ None
not_there p [] h = refl
not_there p (e ∷ es) h = ap (λ o. cond (is_eq o) (Some e.1) (find path_cmp p es)) (less _ (first _ _ h)) ∙ not_there p es (second _ _ h)

pub prefix_itself : (p : Names) → is_prefix p p ≡ true
prefix_itself [] = refl
prefix_itself (n ∷ p) = ap (λ b. b && is_prefix p p) ((bytes_decides n n).1 refl) ∙ prefix_itself p

split : (p : Names) (es : Entries) → T (is_sorted path_cmp es) → filter (λ e. is_prefix p e.0) es ≡ found_at p (find path_cmp p es) ++ filter (λ e. is_below p e.0) es
split p [] s = refl
split p (e ∷ es) s = by (path_cmp p e.0) refl (split p es (second _ _ s))
  where
    under_p : Entries
    under_p = filter (λ x. is_prefix p x.0) es

    below_p : Entries
    below_p = filter (λ x. is_below p x.0) es

    by : (o : Ordering) → path_cmp p e.0 ≡ o → under_p ≡ found_at p (find path_cmp p es) ++ below_p
        → cond (is_prefix p e.0) (e ∷ under_p) under_p ≡ found_at p (cond (is_eq (path_cmp p e.0)) (Some e.1) (find path_cmp p es)) ++ cond (is_below p e.0) (e ∷ below_p) below_p
    by Less i rest =
        let none : find path_cmp p es ≡ None = not_there p es (later p e.0 es i (first _ _ s)) in
        let same : under_p ≡ below_p = rest ∙ ap (λ x. found_at p x ++ below_p) none in
        ap (λ xs. cond (is_prefix p e.0) (e ∷ xs) xs) same
        ∙ ap (λ b. cond b (e ∷ below_p) below_p) (at_or_below p e.0 (ap is_eq i))
        ∙ sym (ap (λ x. found_at p x ++ cond (is_below p e.0) (e ∷ below_p) below_p) (ap (λ o. cond (is_eq o) (Some e.1) (find path_cmp p es)) i ∙ none))
    by Equal i rest =
        let same : p ≡ e.0 = path_cmp_exact p e.0 i in
        let it : is_prefix p e.0 ≡ true = ap (is_prefix p) (sym same) ∙ prefix_itself p in
        let back : is_prefix e.0 p ≡ true = ap (λ z. is_prefix z p) (sym same) ∙ prefix_itself p in
        let entry : e ≡ (p, e.1) = λ k. (sym same k, e.1) in
        let above_p : under_p ≡ below_p = nothing_more p es (subst (λ z. T (below_all path_cmp z es)) (sym same) (first _ _ s)) in
        ap (λ b. cond b (e ∷ under_p) under_p) it
        ∙ ap (λ xs. e ∷ xs) above_p
        ∙ ap (λ x. x ∷ below_p) entry
        ∙ sym (ap (λ b. found_at p (cond (is_eq (path_cmp p e.0)) (Some e.1) (find path_cmp p es)) ++ cond b (e ∷ below_p) below_p)
        (ap (λ b. is_prefix p e.0 && not b) back ∙ ap (λ b. b && false) it)
        ∙ ap (λ o. found_at p (cond (is_eq o) (Some e.1) (find path_cmp p es)) ++ below_p) i)
    by Greater i rest =
        let out : is_prefix p e.0 ≡ false = no (is_prefix p e.0) refl in
        ap (λ b. cond b (e ∷ under_p) under_p) out
        ∙ rest
        ∙ sym (ap (λ b. found_at p (cond (is_eq (path_cmp p e.0)) (Some e.1) (find path_cmp p es)) ++ cond b (e ∷ below_p) below_p) (not_under p e.0 out)
        ∙ ap (λ o. found_at p (cond (is_eq o) (Some e.1) (find path_cmp p es)) ++ below_p) i)
      where
        no : (b : Bool) → is_prefix p e.0 ≡ b → is_prefix p e.0 ≡ false
        no false h = h
        no true h = never (sym (ap is_gt i) ∙ prefix_le p e.0 h)

-- a branch is what is at the path, and what is below it
pub branch_split : (t : Tree) (p : Names) → branch t p ≡ found_at p (get t p) ++ members t p
branch_split t p = split p (entries t) (sorted t) ∙ ap (λ x. found_at p x ++ members t p) (sym (get-entries t p))
