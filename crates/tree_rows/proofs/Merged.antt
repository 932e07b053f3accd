-- Two lists of entries in path order, and the rows by which the second differs from the first.
use Rattle.std.proofs.Common.{◌≡◌, ◌≢◌, Bool, true, false, cond, List, [], ◌∷◌, map, refl, sym, ap, ◌∙◌, subst}
use Rattle.std.specs.Prelude.{Option, Some, None}
use Rattle.std.specs.declared.cmp.Ordering.{Ordering}
use Rattle.std.specs.declared.cmp.Ordering.TheVariants.{Less, Equal, Greater}
use Rattle.std.specs.FinMap.{get, entries, get-entries, find}
use Rattle.std.specs.List.{AllByRecursion}
use Rattle.std.specs.Ordering.{is_lt, is_eq, match_ordering, ordering_reverse}
use Rattle.res_path.specs.Paths.{Names, path_cmp}
use Rattle.res_path.specs.PathLaws.{path_cmp_total}
use Rattle.res_path.proofs.Prefixes.{path_cmp_exact, path_itself}
use Rattle.ws_elem.specs.declared.element.Element.{Element}
use Rattle.ws_elem.specs.Trees.{Tree}
use Rattle.tree_rows.specs.Rows.{Rows, after, IsAbove, Rise, Leads}
use Rattle.tree_rows.specs.Same.{same_entry}
use Rattle.tree_rows.specs.Inside.Pairs.{Listed, Sides, merged_from, merged, only_before, only_after, rows_in}
use Rattle.tree_rows.proofs.Equal.{equal_by, equal_so}
use Rattle.tree_rows.proofs.Order.{Listing, less, greater_is, above_more, find_missing, entries_rise, apart, met, missed}

-- ---- the rows rise

rise_lower : (l : Option Names) (p : Names) (rows : Rows) → IsAbove l p → Rise (Some p) rows → Rise l rows
rise_lower l p [] h g = tt
rise_lower l p (row ∷ rows) h g = (above_more l p row.0 h (less _ g.0), g.1)

-- a row more or none, above all before
next_rises : (l : Option Names) (b : Bool) (p : Names) (e : Option Element) (rows : Rows) → IsAbove l p → Rise (Some p) rows → Rise l (cond b rows ((p, e) ∷ rows))
next_rises l true p e rows h g = rise_lower l p rows h g
next_rises l false p e rows h g = (h, g)

after_rises : (l : Option Names) (ys : Listed) → Listing l ys → Rise l (rows_in (map only_after ys))
after_rises l [] h = tt
after_rises l (y ∷ ys) h = (h.0, after_rises (Some y.0) ys h.1)

from_rises : (x : Names × Element) (xs : Listed) (rest : Listed → List Sides)
    → ((l : Option Names) (ys : Listed) → Listing l xs → Listing l ys → Rise l (rows_in (rest ys)))
    → (l : Option Names) (ys : Listed) → IsAbove l x.0 → Listing (Some x.0) xs → Listing l ys → Rise l (rows_in (merged_from x rest ys))
from_rises x xs rest more l [] u h g = (u, more (Some x.0) [] h tt)
from_rises x xs rest more l (y ∷ ys) u h g =
    by (path_cmp x.0 y.0) refl (λ below. from_rises x xs rest more (Some y.0) ys below h g.1)
  where
    by : (o : Ordering) → path_cmp x.0 y.0 ≡ o → (IsAbove (Some y.0) x.0 → Rise (Some y.0) (rows_in (merged_from x rest ys)))
        → Rise l (rows_in (match_ordering o (only_before x ∷ rest (y ∷ ys)) ((x.0, (Some x.1, Some y.1)) ∷ rest ys) (only_after y ∷ merged_from x rest ys)))
    by Less e next = (u, more (Some x.0) (y ∷ ys) h (ap is_lt e, g.1))
    by Equal e next =
        next_rises l (same_entry (Some x.1) (Some y.1)) x.0 (Some y.1) (rows_in (rest ys)) u
        (more (Some x.0) ys h (subst (λ p. Listing (Some p) ys) (sym (path_cmp_exact x.0 y.0 e)) g.1))
    by Greater e next = (g.0, next (ap is_lt (greater_is x.0 y.0 e)))

pub merged_rises : (l : Option Names) (xs ys : Listed) → Listing l xs → Listing l ys → Rise l (rows_in (merged xs ys))
merged_rises l [] ys h g = after_rises l ys g
merged_rises l (x ∷ xs) ys h g = from_rises x xs (merged xs) (λ m zs. merged_rises m xs zs) l ys h.0 h.1 g

-- ---- they lead from the one to the other

-- a row at another path changes nothing at p
row_there : (base : Names → Option Element) (p q : Names) (e z : Option Element) (rows : Rows)
    → (is_eq (path_cmp p q) ≡ true → e ≡ z) → (is_eq (path_cmp p q) ≡ false → after base rows p ≡ z) → after base ((q, e) ∷ rows) p ≡ z
row_there base p q e z rows here there = by (is_eq (path_cmp p q)) refl ∙ refl
  where
    by : (b : Bool) → is_eq (path_cmp p q) ≡ b → after base ((q, e) ∷ rows) p ≡ z
    by true h = ap (λ c. cond c e (after base rows p)) (met p q ∙ h) ∙ here h
    by false h = ap (λ c. cond c e (after base rows p)) (met p q ∙ h) ∙ there h

-- where all rows are above p, they change nothing there
none_there : (base : Names → Option Element) (p : Names) (rows : Rows) → Rise (Some p) rows → after base rows p ≡ base p
none_there base p [] h = refl
none_there base p (row ∷ rows) h = row_there base p row.0 row.1 (base p) rows (λ e. absurd (apart p row.0 h.0 e)) (λ e. none_there base p rows (rise_lower (Some p) row.0 rows h.0 h.1))

-- what is found behind the first entry, unless it is the first
past : (p : Names) (x : Names × Element) (xs : Listed) → is_eq (path_cmp p x.0) ≡ false → find path_cmp p (x ∷ xs) ≡ find path_cmp p xs
past p x xs e = ap (λ c. cond c (Some x.1) (find path_cmp p xs)) e

first : (p : Names) (x : Names × Element) (xs : Listed) → is_eq (path_cmp p x.0) ≡ true → find path_cmp p (x ∷ xs) ≡ Some x.1
first p x xs e = ap (λ c. cond c (Some x.1) (find path_cmp p xs)) e

-- an entry above p's own is not p's
gone_there : (p : Names) (l : Names) (ys : Listed) → is_eq (path_cmp p l) ≡ true → Listing (Some l) ys → find path_cmp p ys ≡ None
gone_there p l ys e h = ap (λ q. find path_cmp q ys) (path_cmp_exact p l (is_equal _ e)) ∙ find_missing l ys h
  where
    is_equal : (o : Ordering) → is_eq o ≡ true → o ≡ Equal
    is_equal Less h = absurd cc
    is_equal Equal h = refl
    is_equal Greater h = absurd cc

module _ (base : Names → Option Element) (p : Names) where
  after_there : (ys : Listed) → base p ≡ None → after base (rows_in (map only_after ys)) p ≡ find path_cmp p ys
  after_there [] h = h
  after_there (y ∷ ys) h =
      row_there base p y.0 (Some y.1) (find path_cmp p (y ∷ ys)) (rows_in (map only_after ys)) (λ e. sym (first p y ys e)) (λ e. after_there ys h ∙ sym (past p y ys e))

  both_there : (x : Names × Element) (xs : Listed) (y : Element) (ys : Listed) (b : Bool) (rows : Rows) → same_entry (Some x.1) (Some y) ≡ b → Rise (Some x.0) rows
      → base p ≡ find path_cmp p (x ∷ xs) → (base p ≡ find path_cmp p xs → after base rows p ≡ find path_cmp p ys)
      → after base (cond b rows ((x.0, Some y) ∷ rows)) p ≡ find path_cmp p ((x.0, y) ∷ ys)
  both_there x xs y ys true rows same rise h more = by (is_eq (path_cmp p x.0)) refl
    where
      by : (b : Bool) → is_eq (path_cmp p x.0) ≡ b → after base rows p ≡ find path_cmp p ((x.0, y) ∷ ys)
      by true e =
          none_there base p rows (subst (λ q. Rise (Some q) rows) (sym (missed p x.0 e)) rise)
          ∙ h ∙ first p x xs e ∙ equal_by (Some x.1) (Some y) same ∙ sym (first p (x.0, y) ys e)
      by false e = more (h ∙ past p x xs e) ∙ sym (past p (x.0, y) ys e)
  both_there x xs y ys false rows same rise h more =
      row_there base p x.0 (Some y) (find path_cmp p ((x.0, y) ∷ ys)) rows (λ e. sym (first p (x.0, y) ys e)) (λ e. more (h ∙ past p x xs e) ∙ sym (past p (x.0, y) ys e))

  from_there : (x : Names × Element) (xs : Listed) (rest : Listed → List Sides)
      → ((l : Option Names) (ys : Listed) → Listing l xs → Listing l ys → Rise l (rows_in (rest ys)))
      → ((ys : Listed) → Listing (Some x.0) ys → base p ≡ find path_cmp p xs → after base (rows_in (rest ys)) p ≡ find path_cmp p ys)
      → (l : Option Names) (ys : Listed) → Listing (Some x.0) xs → Listing l ys → base p ≡ find path_cmp p (x ∷ xs)
      → after base (rows_in (merged_from x rest ys)) p ≡ find path_cmp p ys
  from_there x xs rest rises more l [] h g is =
      row_there base p x.0 None None (rows_in (rest [])) (λ e. refl) (λ e. more [] tt (is ∙ past p x xs e))
  from_there x xs rest rises more l (y ∷ ys) h g is = by (path_cmp x.0 y.0) refl (from_there x xs rest rises more (Some y.0) ys h g.1 is)
    where
      by : (o : Ordering) → path_cmp x.0 y.0 ≡ o → after base (rows_in (merged_from x rest ys)) p ≡ find path_cmp p ys
          → after base (rows_in (match_ordering o (only_before x ∷ rest (y ∷ ys)) ((x.0, (Some x.1, Some y.1)) ∷ rest ys) (only_after y ∷ merged_from x rest ys))) p ≡ find path_cmp p (y ∷ ys)
      by Less e next =
          let low : Listing (Some x.0) (y ∷ ys) = (ap is_lt e, g.1) in
          row_there base p x.0 None (find path_cmp p (y ∷ ys)) (rows_in (rest (y ∷ ys))) (λ i. sym (gone_there p x.0 (y ∷ ys) i low)) (λ i. more (y ∷ ys) low (is ∙ past p x xs i))
      by Equal e next =
          let low : Listing (Some x.0) ys = subst (λ q. Listing (Some q) ys) (sym (path_cmp_exact x.0 y.0 e)) g.1 in
          both_there x xs y.1 ys (same_entry (Some x.1) (Some y.1)) (rows_in (rest ys)) refl (rises (Some x.0) ys h low) is (more ys low)
          ∙ ap (λ q. find path_cmp p ((q, y.1) ∷ ys)) (path_cmp_exact x.0 y.0 e)
      by Greater e next =
          row_there base p y.0 (Some y.1) (find path_cmp p (y ∷ ys)) (rows_in (merged_from x rest ys)) (λ i. sym (first p y ys i)) (λ i. next ∙ sym (past p y ys i))

  merged_there : (l m : Option Names) (xs ys : Listed) → Listing l xs → Listing m ys → base p ≡ find path_cmp p xs → after base (rows_in (merged xs ys)) p ≡ find path_cmp p ys
  merged_there l m [] ys h g is = after_there ys is
  merged_there l m (x ∷ xs) ys h g is = from_there x xs (merged xs) (λ n zs. merged_rises n xs zs) (λ zs k. merged_there (Some x.0) (Some x.0) xs zs h.1 k) m ys h.1 g is

-- ---- each row is new

module _ (base : Names → Option Element) where
  abbrev AllNew : Rows → Type 0
  AllNew = AllByRecursion (λ row. row.1 ≢ base row.0)

  -- above the path the base has what is found
  abbrev FoundAbove : Option Names → Listed → Type 0
  FoundAbove l xs = (p : Names) → IsAbove l p → base p ≡ find path_cmp p xs

  tail_found : (l : Option Names) (x : Names × Element) (xs : Listed) → IsAbove l x.0 → FoundAbove l (x ∷ xs) → FoundAbove (Some x.0) xs
  tail_found l x xs u f p h = f p (above_more l x.0 p u (less _ h)) ∙ past p x xs (later x.0 p h)
    where
      later : (q p : Names) → is_lt (path_cmp q p) ≡ true → is_eq (path_cmp p q) ≡ false
      later q p h = ap is_eq (path_cmp_total.antisymm p q ∙ ap ordering_reverse (less _ h))

  first_is : (l : Option Names) (x : Names × Element) (xs : Listed) → IsAbove l x.0 → FoundAbove l (x ∷ xs) → base x.0 ≡ Some x.1
  first_is l x xs u f = f x.0 u ∙ first x.0 x xs (ap is_eq (path_itself x.0))

  after_new : (l : Option Names) (ys : Listed) → Listing l ys → FoundAbove l [] → AllNew (rows_in (map only_after ys))
  after_new l [] h f = tt
  after_new l (y ∷ ys) h f = (λ e. absurd (let n : Some y.1 ≡ None = e ∙ f y.0 h.0 in cc), after_new (Some y.0) ys h.1 (λ p g. f p (above_more l y.0 p h.0 (less _ g))))

  both_new : (x : Names × Element) (y : Element) (b : Bool) (rows : Rows) → same_entry (Some x.1) (Some y) ≡ b → base x.0 ≡ Some x.1 → AllNew rows → AllNew (cond b rows ((x.0, Some y) ∷ rows))
  both_new x y true rows same is more = more
  both_new x y false rows same is more = (λ e. absurd (let n : true ≡ false = sym (equal_so (Some x.1) (Some y) (sym (e ∙ is))) ∙ same in cc), more)

  from_new : (x : Names × Element) (xs : Listed) (rest : Listed → List Sides)
      → ((ys : Listed) → Listing (Some x.0) ys → FoundAbove (Some x.0) xs → AllNew (rows_in (rest ys)))
      → (l : Option Names) (ys : Listed) → IsAbove l x.0 → Listing l ys → Listing (Some x.0) xs → FoundAbove l (x ∷ xs) → AllNew (rows_in (merged_from x rest ys))
  from_new x xs rest more l [] u g h f = (λ e. absurd (let n : None ≡ Some x.1 = e ∙ first_is l x xs u f in cc), more [] tt (tail_found l x xs u f))
  from_new x xs rest more l (y ∷ ys) u g h f =
      by (path_cmp x.0 y.0) refl (λ below. from_new x xs rest more (Some y.0) ys below g.1 h (λ p k. f p (above_more l y.0 p g.0 (less _ k))))
    where
      by : (o : Ordering) → path_cmp x.0 y.0 ≡ o → (IsAbove (Some y.0) x.0 → AllNew (rows_in (merged_from x rest ys)))
          → AllNew (rows_in (match_ordering o (only_before x ∷ rest (y ∷ ys)) ((x.0, (Some x.1, Some y.1)) ∷ rest ys) (only_after y ∷ merged_from x rest ys)))
      by Less e next = (λ i. absurd (let n : None ≡ Some x.1 = i ∙ first_is l x xs u f in cc), more (y ∷ ys) (ap is_lt e, g.1) (tail_found l x xs u f))
      by Equal e next =
          both_new x y.1 (same_entry (Some x.1) (Some y.1)) (rows_in (rest ys)) refl (first_is l x xs u f)
          (more ys (subst (λ q. Listing (Some q) ys) (sym (path_cmp_exact x.0 y.0 e)) g.1) (tail_found l x xs u f))
      by Greater e next =
          let below : IsAbove (Some y.0) x.0 = ap is_lt (greater_is x.0 y.0 e) in
          let none : base y.0 ≡ None = f y.0 g.0 ∙ find_missing y.0 (x ∷ xs) (below, h) in
          (λ i. absurd (let n : Some y.1 ≡ None = i ∙ none in cc), next below)

  merged_new : (l : Option Names) (xs ys : Listed) → Listing l xs → Listing l ys → FoundAbove l xs → AllNew (rows_in (merged xs ys))
  merged_new l [] ys h g f = after_new l ys g f
  merged_new l (x ∷ xs) ys h g f = from_new x xs (merged xs) (λ zs k f. merged_new (Some x.0) xs zs h.1 k f) l ys h.0 g h.1 f

pub between : (a b : Tree) → Leads a b (rows_in (merged (entries a) (entries b)))
between a b = record {
  rise = merged_rises None (entries a) (entries b) (entries_rise a) (entries_rise b);
  new = merged_new (get a) None (entries a) (entries b) (entries_rise a) (entries_rise b) (λ p _. get-entries a p);
  there = λ p. merged_there (get a) p None None (entries a) (entries b) (entries_rise a) (entries_rise b) (get-entries a p) ∙ sym (get-entries b p);
}

pub leads_so : (a b : Tree) (rows : Rows) → rows ≡ rows_in (merged (entries a) (entries b)) → Leads a b rows
leads_so a b rows e = subst (Leads a b) (sym e) (between a b)
