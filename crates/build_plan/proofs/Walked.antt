-- The open projects of a tree, found from entry to entry.
use Rattle.std.proofs.Common.{◌≡◌, ◌⊎◌, inl, inr, ℕ, suc, ◌<◌, ◌≤◌, Bool, true, false, cond, ◌&&◌, List, [], ◌∷◌, ◌++◌, length, Some, None, T, refl, sym, ap, ◌∙◌, subst, arith, append_assoc, append-nil}
use Rattle.std.specs.List.{AllByRecursion, Contains, filter, flat_map}
use Rattle.std.specs.declared.cmp.Ordering.{Ordering}
use Rattle.std.specs.declared.cmp.Ordering.TheVariants.{Less, Equal, Greater}
use Rattle.std.specs.Ordering.{nat_cmp, is_eq, is_lt, ordering_then, ordering_reverse}
use Rattle.std.specs.Cmp.Lexicographic.{slice_cmp, nat_list_cmp_total}
use Rattle.std.proofs.lemmas.Cmp.{tied_itself}
use Rattle.std.specs.FinMap.{get, entries, entries_sorted, find, is_sorted, get-entries}
use Rattle.std.specs.FinMap.Entries.{below_all}
use Rattle.std.proofs.lemmas.List.Elements.{filter-append}
use Rattle.res_path.specs.Paths.{Names, path_cmp}
use Rattle.res_path.specs.PathLaws.{path_cmp_total}
use Rattle.res_path.proofs.Prefixes.{path_itself}
use Rattle.ws_elem.specs.declared.element.Element.{Element}
use Rattle.ws_elem.specs.Trees.{Tree, entry_after}
use Rattle.build_order.specs.Orders.{Projects}
use Rattle.build_order.proofs.Members.{none, cons_cases, at_front, behind}
use Rattle.build_plan.specs.Plans.{project_of, projects_of}
use Rattle.build_plan.specs.Inside.Walks.{entries_after, projects_after, IsPast}
use Rattle.build_plan.proofs.Listed.{IsFirst, found, found_none, all_at, filter_none, filter_more}

abbrev pub Entries : Type 0
Entries = List (Names × Element)

first : (a b : Bool) → T (a && b) → T a
first true b h = tt
first false b h = h

second : (a b : Bool) → T (a && b) → T b
second true b h = h
second false b h = absurd h

less : (o : Ordering) → T (is_lt o) → o ≡ Less
less Less h = refl
less Equal h = absurd h
less Greater h = absurd h

-- ---- entries in order

pub below_less : (p : Names) (es : Entries) → T (below_all path_cmp p es) → AllByRecursion (λ e. path_cmp p e.0 ≡ Less) es
below_less p [] h = tt
below_less p (e ∷ es) h = (less (path_cmp p e.0) (first _ _ h), below_less p es (second _ _ h))

not_back : (p q : Names) → path_cmp p q ≡ Less → path_cmp q p ≡ Greater
not_back p q l = path_cmp_total.antisymm q p ∙ ap ordering_reverse l

-- each entry is found at its path
entry_found : (es : Entries) → T (is_sorted path_cmp es) → (x : Names × Element) → Contains es x → find path_cmp x.0 es ≡ Some x.1
entry_found [] s x i = absurd (none x i)
entry_found (e ∷ es) s x i = elim (cons_cases e es x i) [
  | inl same ↦ subst (λ y. find path_cmp y.0 (e ∷ es) ≡ Some y.1) same (ap (λ o. cond (is_eq o) (Some e.1) (find path_cmp e.0 es)) (path_itself e.0))
  | inr later ↦
      ap (λ o. cond (is_eq o) (Some e.1) (find path_cmp x.0 es)) (not_back e.0 x.0 (all_at (λ y. path_cmp e.0 y.0 ≡ Less) es x (below_less e.0 es (first _ _ s)) later))
      ∙ entry_found es (second _ _ s) x later
]

pub entry_got : (t : Tree) (x : Names × Element) → Contains (entries t) x → get t x.0 ≡ Some x.1
entry_got t x i = get-entries t x.0 ∙ entry_found (entries t) (entries_sorted t) x i

-- what stands before an entry is below it, and what stands behind it above
split_sorted : (front : Entries) (x : Names × Element) (back : Entries) → T (is_sorted path_cmp (front ++ x ∷ back)) → AllByRecursion (λ e. path_cmp e.0 x.0 ≡ Less) front × AllByRecursion (λ e. path_cmp x.0 e.0 ≡ Less) back
split_sorted [] x back s = (tt, below_less x.0 back (first _ _ s))
split_sorted (e ∷ front) x back s =
    let rest = split_sorted front x back (second _ _ s) in
    ((at_last front (below_less e.0 (front ++ x ∷ back) (first _ _ s)), rest.0), rest.1)
  where
    at_last : (ys : Entries) → AllByRecursion (λ y. path_cmp e.0 y.0 ≡ Less) (ys ++ x ∷ back) → path_cmp e.0 x.0 ≡ Less
    at_last [] h = h.0
    at_last (y ∷ ys) h = at_last ys h.1

abbrev above : Names → Entries → Entries
above p es = filter (λ e. is_lt (path_cmp p e.0)) es

above_all : (p : Names) (es : Entries) → AllByRecursion (λ e. path_cmp p e.0 ≡ Less) es → above p es ≡ es
above_all p [] h = refl
above_all p (e ∷ es) h = ap (λ o. cond (is_lt o) (e ∷ above p es) (above p es)) h.0 ∙ ap (λ xs. e ∷ xs) (above_all p es h.1)

above_none : (p : Names) (es : Entries) → AllByRecursion (λ e. path_cmp e.0 p ≡ Less) es → above p es ≡ []
above_none p [] h = refl
above_none p (e ∷ es) h = ap (λ o. cond (is_lt o) (e ∷ above p es) (above p es)) (not_back e.0 p h.0) ∙ above_none p es h.1

further : (p q : Names) (es : Entries) → path_cmp p q ≡ Less → AllByRecursion (λ e. path_cmp q e.0 ≡ Less) es → AllByRecursion (λ e. path_cmp p e.0 ≡ Less) es
further p q [] l h = tt
further p q (e ∷ es) l h = (path_cmp_total.trans p q e.0 l h.0, further p q es l h.1)

-- the first entry above p, and the others
record IsNextAt (t : Tree) (p : Names) (x : Names × Element) : Type 0 where
  here : Contains (entries t) x
  above : path_cmp p x.0 ≡ Less
  rest : entries_after t p ≡ x ∷ entries_after t x.0

lt_true : (o : Ordering) → is_lt o ≡ true → o ≡ Less
lt_true Less h = refl
lt_true Equal h = cc
lt_true Greater h = cc

next_at : (t : Tree) (p : Names) (x : Names × Element) → entry_after t p ≡ Some x → IsNextAt t p x
next_at t p x h = record {
  here = subst (λ es. Contains es x) (sym at.is) (in_middle at.front);
  above = over;
  rest = before ∙ ap (λ xs. x ∷ xs) (sym behind_it);
}
  where
    at : IsFirst (λ e. is_lt (path_cmp p e.0)) (entries t) x
    at = found (λ e. is_lt (path_cmp p e.0)) (entries t) x h

    sides : AllByRecursion (λ e. path_cmp e.0 x.0 ≡ Less) at.front × AllByRecursion (λ e. path_cmp x.0 e.0 ≡ Less) at.back
    sides = split_sorted at.front x at.back (subst (λ es. T (is_sorted path_cmp es)) at.is (entries_sorted t))

    over : path_cmp p x.0 ≡ Less
    over = lt_true (path_cmp p x.0) at.passes

    in_middle : (front : Entries) → Contains (front ++ x ∷ at.back) x
    in_middle [] = at_front x at.back
    in_middle (y ∷ front) = behind y (front ++ x ∷ at.back) x (in_middle front)

    before : entries_after t p ≡ x ∷ at.back
    before =
        ap (above p) at.is ∙ filter-append (λ e. is_lt (path_cmp p e.0)) at.front (x ∷ at.back)
        ∙ ap (λ xs. xs ++ above p (x ∷ at.back)) (filter_none (λ e. is_lt (path_cmp p e.0)) at.front at.before)
        ∙ above_all p (x ∷ at.back) (over, further p x.0 at.back over sides.1)

    behind_it : entries_after t x.0 ≡ at.back
    behind_it =
        ap (above x.0) at.is ∙ filter-append (λ e. is_lt (path_cmp x.0 e.0)) at.front (x ∷ at.back)
        ∙ ap (λ xs. xs ++ above x.0 (x ∷ at.back)) (above_none x.0 at.front sides.0)
        ∙ ap (λ o. cond (is_lt o) (x ∷ above x.0 at.back) (above x.0 at.back)) (path_itself x.0)
        ∙ above_all x.0 at.back sides.1

none_above : (p : Names) (es : Entries) → ((x : Names × Element) → Contains es x → is_lt (path_cmp p x.0) ≡ false) → above p es ≡ []
none_above p [] h = refl
none_above p (e ∷ es) h = ap (λ b. cond b (e ∷ above p es) (above p es)) (h e (at_front e es)) ∙ none_above p es (λ x i. h x (behind e es x i))

-- nothing comes after the last
after_last : (t : Tree) (p : Names) → entry_after t p ≡ None → projects_after t p ≡ []
after_last t p h = ap (flat_map (λ x. project_of x.0 x.1)) (none_above p (entries t) (λ x i. found_none (λ e. is_lt (path_cmp p e.0)) (entries t) h x i))

-- ---- projects

abbrev projects_in : Entries → Projects
projects_in es = flat_map (λ x. project_of x.0 x.1) es

-- two tests that differ only where there is no project
same_projects : (test other : Names → Bool) → ((p : Names) (e : Element) → (test p ≡ other p) ⊎ (project_of p e ≡ [])) → (es : Entries)
    → projects_in (filter (λ x. test x.0) es) ≡ projects_in (filter (λ x. other x.0) es)
same_projects test other h [] = refl
same_projects test other h (x ∷ es) = elim (h x.0 x.1) [
  | inl same ↦ (λ i. projects_in (cond (same i) (x ∷ filter (λ y. test y.0) es) (filter (λ y. test y.0) es))) ∙ kept (other x.0) (same_projects test other h es)
  | inr nothing ↦ left (test x.0) nothing ∙ same_projects test other h es ∙ sym (right (other x.0) nothing)
]
  where
    kept : (b : Bool) → projects_in (filter (λ y. test y.0) es) ≡ projects_in (filter (λ y. other y.0) es)
        → projects_in (cond b (x ∷ filter (λ y. test y.0) es) (filter (λ y. test y.0) es)) ≡ projects_in (cond b (x ∷ filter (λ y. other y.0) es) (filter (λ y. other y.0) es))
    kept true rest = ap (λ ps. project_of x.0 x.1 ++ ps) rest
    kept false rest = rest

    left : (b : Bool) → project_of x.0 x.1 ≡ [] → projects_in (cond b (x ∷ filter (λ y. test y.0) es) (filter (λ y. test y.0) es)) ≡ projects_in (filter (λ y. test y.0) es)
    left true nothing = ap (λ ps. ps ++ projects_in (filter (λ y. test y.0) es)) nothing
    left false nothing = refl

    right : (b : Bool) → project_of x.0 x.1 ≡ [] → projects_in (cond b (x ∷ filter (λ y. other y.0) es) (filter (λ y. other y.0) es)) ≡ projects_in (filter (λ y. other y.0) es)
    right true nothing = ap (λ ps. ps ++ projects_in (filter (λ y. other y.0) es)) nothing
    right false nothing = refl

every : (es : Entries) → filter (λ x. true) es ≡ es
every [] = refl
every (x ∷ es) = ap (λ xs. x ∷ xs) (every es)

-- all projects come after the root
pub after_root : (t : Tree) → projects_after t [] ≡ projects_of t
after_root t = same_projects (λ p. is_lt (path_cmp [] p)) (λ p. true) beyond (entries t) ∙ ap projects_in (every (entries t))
  where
    beyond : (p : Names) (e : Element) → (is_lt (path_cmp [] p) ≡ true) ⊎ (project_of p e ≡ [])
    beyond [] e = inr refl
    beyond (n ∷ p) e = inl refl

after_next : (t : Tree) (p : Names) (x : Names × Element) → entry_after t p ≡ Some x → projects_after t p ≡ project_of x.0 x.1 ++ projects_after t x.0
after_next t p x h = ap projects_in ((next_at t p x h).rest)

-- and those after a project come after all below it
below_project : (t : Tree) (a n : List ℕ) → projects_after t (a ∷ []) ≡ projects_after t (a ∷ n ∷ [])
below_project t a n = same_projects (λ p. is_lt (path_cmp (a ∷ []) p)) (λ p. is_lt (path_cmp (a ∷ n ∷ []) p)) alike (entries t)
  where
    at : (o : Ordering) → is_lt (ordering_then o Equal) ≡ is_lt (ordering_then o Greater)
    at Less = refl
    at Equal = refl
    at Greater = refl

    alike : (p : Names) (e : Element) → (is_lt (path_cmp (a ∷ []) p) ≡ is_lt (path_cmp (a ∷ n ∷ []) p)) ⊎ (project_of p e ≡ [])
    alike [] e = inr refl
    alike (m ∷ []) e = inl (at (slice_cmp nat_cmp a m))
    alike (m ∷ k ∷ p) e = inr refl

after_past : (t : Tree) (q p : Names) → IsPast q p → projects_after t q ≡ projects_after t p
after_past t q p (inl same) = ap (projects_after t) (sym same)
after_past t [] p (inr below) = absurd (let no : 0 ≡ 1 = below.0 in cc)
after_past t (a ∷ []) p (inr below) = below_project t a below.1 ∙ ap (projects_after t) (sym below.2)
after_past t (a ∷ m ∷ q) p (inr below) = absurd (omega (arith, below.0))

-- ---- the walk ends

le_below : (t : Tree) (a n : List ℕ) → length (entries_after t (a ∷ n ∷ [])) ≤ length (entries_after t (a ∷ []))
le_below t a n = filter_more (λ e. is_lt (path_cmp (a ∷ n ∷ []) e.0)) (λ e. is_lt (path_cmp (a ∷ []) e.0))
    (λ x h. ap is_lt (path_cmp_total.trans (a ∷ []) (a ∷ n ∷ []) x.0 (ap (λ o. ordering_then o Less) (tied_itself nat_list_cmp_total a)) (lt_true (path_cmp (a ∷ n ∷ []) x.0) h)))
    (entries t)

le_past : (t : Tree) (q p : Names) → IsPast q p → length (entries_after t p) ≤ length (entries_after t q)
le_past t q p (inl same) = omega (arith, ap (λ x. length (entries_after t x)) same)
le_past t [] p (inr below) = absurd (let no : 0 ≡ 1 = below.0 in cc)
le_past t (a ∷ []) p (inr below) = subst (λ x. length (entries_after t x) ≤ length (entries_after t (a ∷ []))) (sym below.2) (le_below t a below.1)
le_past t (a ∷ m ∷ q) p (inr below) = absurd (omega (arith, below.0))

fewer_after : (t : Tree) (p q : Names) (x : Names × Element) → entry_after t p ≡ Some x → IsPast x.0 q → length (entries_after t q) < length (entries_after t p)
fewer_after t p q x h past =
    let step : length (entries_after t p) ≡ suc (length (entries_after t x.0)) = ap length ((next_at t p x h).rest) in
    let most = le_past t x.0 q past in
    omega arith

-- ---- one step, by what comes next

module _ (t : Tree) (p q : Names) (x : Names × Element) (next : Some x ≡ entry_after t p) where
  pub got_next : get t x.0 ≡ Some x.1
  got_next = entry_got t x ((next_at t p x (sym next)).here)

  pub fewer_next : IsPast x.0 q → length (entries_after t q) < length (entries_after t p)
  fewer_next past = fewer_after t p q x (sym next) past

  pub found_next : (old new : Projects) → IsPast x.0 q → new ≡ old ++ project_of x.0 x.1 → old ++ projects_after t p ≡ projects_of t → new ++ projects_after t q ≡ projects_of t
  found_next old new past grown all =
      (λ i. grown i ++ sym (after_past t x.0 q past) i) ∙ append_assoc old (project_of x.0 x.1) (projects_after t x.0) ∙ ap (λ ps. old ++ ps) (sym (after_next t p x (sym next))) ∙ all

pub found_all : (t : Tree) (p : Names) (found : Projects) → None ≡ entry_after t p → found ++ projects_after t p ≡ projects_of t → found ≡ projects_of t
found_all t p found last all = sym (append-nil found) ∙ ap (λ ps. found ++ ps) (sym (after_last t p (sym last))) ∙ all
