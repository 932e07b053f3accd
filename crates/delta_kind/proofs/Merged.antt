-- Two trees, walked side by side.
use Rattle.std.proofs.Common.{◌≡◌, Bool, true, false, cond, List, [], ◌∷◌, map, refl, sym, ap, ◌∙◌, subst}
use Rattle.std.specs.Prelude.{Option, Some, None, filter}
use Rattle.std.specs.declared.cmp.Ordering.{Ordering}
use Rattle.std.specs.declared.cmp.Ordering.TheVariants.{Less, Equal, Greater}
use Rattle.std.specs.FinMap.{get, entries, get-entries, find}
use Rattle.std.specs.Ordering.{eq_by_cmp, match_ordering, ordering_reverse}
use Rattle.res_path.specs.Paths.{Names, path_cmp}
use Rattle.res_path.specs.PathLaws.{path_cmp_total}
use Rattle.res_path.proofs.Prefixes.{path_cmp_exact}
use Rattle.ws_elem.specs.declared.element.Element.{Element}
use Rattle.ws_elem.specs.Trees.{Tree}
use Rattle.ws_elem.proofs.Cuts.{same_at}
use Rattle.delta_kind.specs.Flags.{differs}
use Rattle.delta_kind.specs.Rows.{Sides, Rows, row_paths}
use Rattle.delta_kind.specs.Inside.Walks.{only_before, only_after, merged_from, merged}
use Rattle.delta_kind.proofs.Rising.{Over, Rises, rises_lower, keys_rise, find_missing}

abbrev Entries : Type 0
Entries = List (Names × Element)

abbrev paths : Entries → List Names
paths = map (λ e. e.0)

-- ---- order

after_rises : (l : Option Names) (ys : Entries) → Rises l (paths ys) → Rises l (row_paths (map only_after ys))
after_rises l [] h = tt
after_rises l (y ∷ ys) h = (h.0, after_rises (Some y.0) ys h.1)

from_rises : (x : Names × Element) (xs : Entries) (rest : Entries → Rows)
    → ((l : Option Names) (ys : Entries) → Rises l (paths xs) → Rises l (paths ys) → Rises l (row_paths (rest ys)))
    → (l : Option Names) (ys : Entries) → Over l x.0 → Rises (Some x.0) (paths xs) → Rises l (paths ys) → Rises l (row_paths (merged_from x rest ys))
from_rises x xs rest more l [] u h g = (u, more (Some x.0) [] h tt)
from_rises x xs rest more l (y ∷ ys) u h g =
    by (path_cmp x.0 y.0) refl (λ below. from_rises x xs rest more (Some y.0) ys below h g.1)
  where
    by : (o : Ordering) → path_cmp x.0 y.0 ≡ o → (path_cmp y.0 x.0 ≡ Less → Rises (Some y.0) (row_paths (merged_from x rest ys)))
        → Rises l (row_paths (match_ordering o (only_before x ∷ rest (y ∷ ys)) ((x.0, (Some x.1, Some y.1)) ∷ rest ys) (only_after y ∷ merged_from x rest ys)))
    by Less e next = (u, more (Some x.0) (y ∷ ys) h (e, g.1))
    by Equal e next = (u, more (Some x.0) ys h (subst (λ p. Rises (Some p) (paths ys)) (sym (path_cmp_exact x.0 y.0 e)) g.1))
    by Greater e next = (g.0, next (path_cmp_total.antisymm y.0 x.0 ∙ ap ordering_reverse e))

merged_rises : (l : Option Names) (xs ys : Entries) → Rises l (paths xs) → Rises l (paths ys) → Rises l (row_paths (merged xs ys))
merged_rises l [] ys h g = after_rises l ys g
merged_rises l (x ∷ xs) ys h g = from_rises x xs (merged xs) (λ m zs. merged_rises m xs zs) l ys h.0 h.1 g

-- ---- what is found

-- the row of a path with these entries
abbrev row_of : Option Element → Option Element → Option Sides
row_of None None = None
row_of None (Some b) = Some (None, Some b)
row_of (Some a) b = Some (Some a, b)

after_found : (ys : Entries) (p : Names) → find path_cmp p (map only_after ys) ≡ row_of None (find path_cmp p ys)
after_found [] p = refl
after_found (y ∷ ys) p = by (eq_by_cmp path_cmp p y.0) (after_found ys p)
  where
    by : (b : Bool) → find path_cmp p (map only_after ys) ≡ row_of None (find path_cmp p ys)
        → cond b (Some (None, Some y.1)) (find path_cmp p (map only_after ys)) ≡ row_of None (cond b (Some y.1) (find path_cmp p ys))
    by true h = refl
    by false h = h

-- the first entry's row, and then the others
first_row : (b : Bool) (x : Element) (u v : Option Element) (rest : Option Sides) → (b ≡ true → v ≡ None) → rest ≡ row_of u v → cond b (Some (Some x, None)) rest ≡ row_of (cond b (Some x) u) v
first_row true x u v rest none h = ap (row_of (Some x)) (sym (none refl))
first_row false x u v rest none h = h

second_row : (b : Bool) (y : Element) (u v : Option Element) (rest : Option Sides) → (b ≡ true → u ≡ None) → rest ≡ row_of u v → cond b (Some (None, Some y)) rest ≡ row_of u (cond b (Some y) v)
second_row true y u v rest none h = ap (λ w. row_of w (Some y)) (sym (none refl))
second_row false y u v rest none h = h

both_row : (b : Bool) (x y : Element) (u v : Option Element) (rest : Option Sides) → rest ≡ row_of u v → cond b (Some (Some x, Some y)) rest ≡ row_of (cond b (Some x) u) (cond b (Some y) v)
both_row true x y u v rest h = refl
both_row false x y u v rest h = h

from_found : (x : Names × Element) (xs : Entries) (rest : Entries → Rows) (p : Names)
    → ((ys : Entries) → Rises (Some x.0) (paths ys) → find path_cmp p (rest ys) ≡ row_of (find path_cmp p xs) (find path_cmp p ys))
    → (l : Option Names) (ys : Entries) → Rises (Some x.0) (paths xs) → Rises l (paths ys)
    → find path_cmp p (merged_from x rest ys) ≡ row_of (find path_cmp p (x ∷ xs)) (find path_cmp p ys)
from_found x xs rest p more l [] h g = first_row (eq_by_cmp path_cmp p x.0) x.1 (find path_cmp p xs) None (find path_cmp p (rest [])) (λ _. refl) (more [] tt)
from_found x xs rest p more l (y ∷ ys) h g = by (path_cmp x.0 y.0) refl (from_found x xs rest p more (Some y.0) ys h g.1)
  where
    by : (o : Ordering) → path_cmp x.0 y.0 ≡ o → find path_cmp p (merged_from x rest ys) ≡ row_of (find path_cmp p (x ∷ xs)) (find path_cmp p ys)
        → find path_cmp p (match_ordering o (only_before x ∷ rest (y ∷ ys)) ((x.0, (Some x.1, Some y.1)) ∷ rest ys) (only_after y ∷ merged_from x rest ys))
        ≡ row_of (find path_cmp p (x ∷ xs)) (find path_cmp p (y ∷ ys))
    by Less e next =
        first_row (eq_by_cmp path_cmp p x.0) x.1 (find path_cmp p xs) (find path_cmp p (y ∷ ys)) (find path_cmp p (rest (y ∷ ys)))
        (λ here. ap (λ q. find path_cmp q (y ∷ ys)) (same_at p x.0 here) ∙ find_missing x.0 (y ∷ ys) (e, g.1))
        (more (y ∷ ys) (e, g.1))
    by Equal e next =
        both_row (eq_by_cmp path_cmp p x.0) x.1 y.1 (find path_cmp p xs) (find path_cmp p ys) (find path_cmp p (rest ys))
        (more ys (subst (λ q. Rises (Some q) (paths ys)) (sym (path_cmp_exact x.0 y.0 e)) g.1))
        ∙ ap (λ q. row_of (find path_cmp p (x ∷ xs)) (cond (eq_by_cmp path_cmp p q) (Some y.1) (find path_cmp p ys))) (path_cmp_exact x.0 y.0 e)
    by Greater e next =
        let below : path_cmp y.0 x.0 ≡ Less = path_cmp_total.antisymm y.0 x.0 ∙ ap ordering_reverse e in
        second_row (eq_by_cmp path_cmp p y.0) y.1 (find path_cmp p (x ∷ xs)) (find path_cmp p ys) (find path_cmp p (merged_from x rest ys))
        (λ here. ap (λ q. find path_cmp q (x ∷ xs)) (same_at p y.0 here) ∙ find_missing y.0 (x ∷ xs) (below, h)) next

merged_found : (p : Names) (l m : Option Names) (xs ys : Entries) → Rises l (paths xs) → Rises m (paths ys) → find path_cmp p (merged xs ys) ≡ row_of (find path_cmp p xs) (find path_cmp p ys)
merged_found p l m [] ys h g = after_found ys p
merged_found p l m (x ∷ xs) ys h g = from_found x xs (merged xs) p (λ zs k. merged_found p (Some x.0) (Some x.0) xs zs h.1 k) m ys h.1 g

-- ---- the rows that differ

abbrev pub row_differs : Names × Sides → Bool
row_differs r = differs r.1.0 r.1.1

abbrev pub rows_between : Tree → Tree → Rows
rows_between a b = filter row_differs (merged (entries a) (entries b))

filter_rises : (l : Option Names) (rs : Rows) → Rises l (row_paths rs) → Rises l (row_paths (filter row_differs rs))
filter_rises l [] h = tt
filter_rises l (r ∷ rs) h = by (row_differs r) (filter_rises (Some r.0) rs h.1)
  where
    by : (b : Bool) → Rises (Some r.0) (row_paths (filter row_differs rs)) → Rises l (row_paths (cond b (r ∷ filter row_differs rs) (filter row_differs rs)))
    by true g = (h.0, g)
    by false g = rises_lower l r.0 _ h.0 g

abbrev kept : Option Sides → Option Sides
kept None = None
kept (Some s) = cond (differs s.0 s.1) (Some s) None

filter_found : (p : Names) (l : Option Names) (rs : Rows) → Rises l (row_paths rs) → find path_cmp p (filter row_differs rs) ≡ kept (find path_cmp p rs)
filter_found p l [] h = refl
filter_found p l (r ∷ rs) h = by (eq_by_cmp path_cmp p r.0) refl (row_differs r) refl (filter_found p (Some r.0) rs h.1)
  where
    by : (e : Bool) → eq_by_cmp path_cmp p r.0 ≡ e → (d : Bool) → row_differs r ≡ d → find path_cmp p (filter row_differs rs) ≡ kept (find path_cmp p rs)
        → find path_cmp p (cond d (r ∷ filter row_differs rs) (filter row_differs rs)) ≡ kept (cond e (Some r.1) (find path_cmp p rs))
    by true i true j g = ap (λ c. cond c (Some r.1) (find path_cmp p (filter row_differs rs))) i ∙ sym (ap (λ c. cond c (Some r.1) None) j)
    by true i false j g =
        g ∙ ap kept (ap (λ q. find path_cmp q rs) (same_at p r.0 i) ∙ find_missing r.0 rs h.1)
        ∙ sym (ap (λ c. cond c (Some r.1) None) j)
    by false i true j g = ap (λ c. cond c (Some r.1) (find path_cmp p (filter row_differs rs))) i ∙ g
    by false i false j g = g

-- a row exactly where the trees differ
abbrev pub RowsOf : Tree → Tree → Rows → Type 0
RowsOf a b rows = (p : Names) → find path_cmp p rows ≡ cond (differs (get a p) (get b p)) (Some (get a p, get b p)) None

pub between_rises : (a b : Tree) → Rises None (row_paths (rows_between a b))
between_rises a b = filter_rises None (merged (entries a) (entries b)) (merged_rises None (entries a) (entries b) (keys_rise a) (keys_rise b))

pub between_found : (a b : Tree) → RowsOf a b (rows_between a b)
between_found a b p =
    filter_found p None (merged (entries a) (entries b)) (merged_rises None (entries a) (entries b) (keys_rise a) (keys_rise b))
    ∙ ap kept (merged_found p None None (entries a) (entries b) (keys_rise a) (keys_rise b) ∙ ap (λ x. row_of x (find path_cmp p (entries b))) (sym (get-entries a p)) ∙ ap (row_of (get a p)) (sym (get-entries b p)))
    ∙ by (get a p) (get b p)
  where
    by : (x y : Option Element) → kept (row_of x y) ≡ cond (differs x y) (Some (x, y)) None
    by None None = refl
    by None (Some b) = refl
    by (Some a) None = refl
    by (Some a) (Some b) = refl
