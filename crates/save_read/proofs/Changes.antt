-- The rows by which one tree differs from another, as changes.
use Rattle.std.proofs.Common.{◌≡◌, ◌≢◌, ℕ, ◌+◌, ◌<◌, ◌≤◌, ◌^◌, Bool, true, false, cond, List, [], ◌∷◌, ◌++◌, length, map, refl, sym, ap, ◌∙◌, subst, arith}
use Rattle.std.specs.Prelude.{Option, Some, None, IfSome, not, bytes_eq}
use Rattle.std.specs.declared.cmp.Ordering.{Ordering}
use Rattle.std.specs.declared.cmp.Ordering.TheVariants.{Less, Equal, Greater}
use Rattle.std.specs.Option.{option_map}
use Rattle.std.specs.List.{AllByRecursion}
use Rattle.std.specs.FinMap.{get, entries, len, len-entries}
use Rattle.std.specs.Ordering.{is_lt, is_eq, match_ordering}
use Rattle.std.proofs.lemmas.List.{length-map}
use Rattle.std.proofs.lemmas.Slice.Eq.{bytes_eq-Decides}
use Rattle.res_path.specs.Paths.{Names, IsPath, path_cmp, path_eq}
use Rattle.res_path.specs.PathLaws.{path_ties}
use Rattle.res_path.proofs.Prefixes.{path_itself}
use Rattle.ws_elem.specs.declared.element.Element.{Element}
use Rattle.ws_elem.specs.Trees.{Tree}
use Rattle.tree_rows.specs.Rows.{Rows, after, IsAbove, Rise}
use Rattle.tree_rows.specs.Same.{same_entry}
use Rattle.tree_rows.specs.Inside.Pairs.{Listed, Sides, merged_from, merged, only_before, only_after, rows_in}
use Rattle.tree_rows.proofs.Merged.{between as between_leads}
use Rattle.tree_rows.proofs.Order.{less, above_more}
use Rattle.save_form.specs.Laws.{FitEach}
use Rattle.save_form.specs.Lists.{is_above}
use Rattle.save_form.proofs.Wholes.{one_reading}
use Rattle.save_form.specs.Forms.{optional}
use Rattle.save_elem.specs.declared.elem.Elem.{Elem}
use Rattle.save_elem.specs.Elems.{elem}
use Rattle.save_elem.specs.Fits.{FitsElem}
use Rattle.save_elem.specs.Telling.{told}
use Rattle.save_state.specs.declared.change.Change.{Change}
use Rattle.save_state.specs.Changed.{changed, is_path_below}
use Rattle.save_state.specs.Entries.{spell_entry}
use Rattle.save_state.specs.Fits.{FitsChange, FitsChanges}
use Rattle.save_state.specs.States.{is_new}
use Rattle.save_state.proofs.StateLaws.{entry_lawful}
use Rattle.save_text.specs.Telling.{told_row}
use Rattle.save_text.specs.Inside.Between.{between}
use Rattle.save_build.specs.Told.{told_tree, Tells, IsFit, AreFit}
use Rattle.save_build.proofs.Whole.{one_entry}
use Rattle.save_read.specs.Sayable.{IsSayableTree}

-- ---- how many rows

after_length : (ys : Listed) → length (rows_in (map only_after ys)) ≤ length ys
after_length [] = omega arith
after_length (y ∷ ys) = omega (arith, after_length ys)

one_more : (b : Bool) (p : Names) (e : Option Element) (rows : Rows) (n : ℕ) → length rows ≤ n → length (cond b rows ((p, e) ∷ rows)) ≤ n + 1
one_more true p e rows n h = omega arith
one_more false p e rows n h = omega arith

from_length : (x : Names × Element) (xs : Listed) (rest : Listed → List Sides) → ((ys : Listed) → length (rows_in (rest ys)) ≤ length xs + length ys)
    → (ys : Listed) → length (rows_in (merged_from x rest ys)) ≤ length xs + 1 + length ys
from_length x xs rest more [] = omega (arith, more [])
from_length x xs rest more (y ∷ ys) = by (path_cmp x.0 y.0) (from_length x xs rest more ys)
  where
    by : (o : Ordering) → length (rows_in (merged_from x rest ys)) ≤ length xs + 1 + length ys
        → length (rows_in (match_ordering o (only_before x ∷ rest (y ∷ ys)) ((x.0, (Some x.1, Some y.1)) ∷ rest ys) (only_after y ∷ merged_from x rest ys))) ≤ length xs + 1 + length (y ∷ ys)
    by Less next = omega (arith, more (y ∷ ys))
    by Equal next =
        let n = one_more (same_entry (Some x.1) (Some y.1)) x.0 (Some y.1) (rows_in (rest ys)) (length xs + length ys) (more ys) in
        omega (arith, n)
    by Greater next = omega (arith, next)

merged_length : (xs ys : Listed) → length (rows_in (merged xs ys)) ≤ length xs + length ys
merged_length [] ys = omega (arith, after_length ys)
merged_length (x ∷ xs) ys = omega (arith, from_length x xs (merged xs) (merged_length xs) ys)

pub between_length : (a b : Tree) → length (between a b) ≤ len a + len b
between_length a b = omega (arith, merged_length (entries a) (entries b), len-entries a, len-entries b)

-- ---- each row has what stands at its path in the second tree

apart : (p q : Names) → is_lt (path_cmp p q) ≡ true → path_eq p q ≡ false
apart p q h = path_ties p q ∙ ap is_eq (less (path_cmp p q) h)

itself : (p : Names) → path_eq p p ≡ true
itself p = path_ties p p ∙ ap is_eq (path_itself p)

module _ (base : Names → Option Element) (b : Tree) where
  each_row : (l : Option Names) (rows : Rows) → Rise l rows → ((p : Names) → IsAbove l p → after base rows p ≡ get b p) → AllByRecursion (λ row. row.1 ≡ get b row.0) rows
  each_row l [] rise there = tt
  each_row l (row ∷ rows) rise there = (
    sym (ap (λ (t : Bool). cond t row.1 (after base rows row.0)) (itself row.0)) ∙ there row.0 rise.0,
    each_row (Some row.0) rows rise.1 (λ p h. sym (ap (λ (t : Bool). cond t row.1 (after base rows p)) (apart row.0 p h)) ∙ there p (above_more l row.0 p rise.0 (less _ h))),
  )

-- ---- a row as a change

fits_of : (p : Names) (x : Option Element) → IfSome x (IsFit p) → IfSome (option_map told x) FitsElem
fits_of p None h = tt
fits_of p (Some e) h = h.spelled

path_of_row : (p : Names) (x y : Option Element) → IfSome x (IsFit p) → IfSome y (IsFit p) → x ≢ y → IsPath p
path_of_row p None None f g new = absurd (new refl)
path_of_row p None (Some y) f g new = g.path
path_of_row p (Some x) y f g new = f.path

is_not : (b : Bool) → (b ≡ true → ⊥) → not b ≡ true
is_not true h = absurd (h refl)
is_not false h = refl

new_told : (p : Names) (x y : Option Element) → IfSome x (IsFit p) → IfSome y (IsFit p) → x ≢ y → is_new (option_map told y) (option_map told x) ≡ true
new_told p x y f g new =
    is_not (bytes_eq (spell_entry (option_map told y)) (spell_entry (option_map told x))) (λ e.
    let bytes = (bytes_eq-Decides (spell_entry (option_map told y)) (spell_entry (option_map told x))).0 e in
    let same = (one_reading (λ (o : Option Elem). IfSome o FitsElem) (optional elem) entry_lawful (option_map told y) (option_map told x) [] [] (fits_of p y g) (fits_of p x f) (ap (λ (bs : List ℕ). bs ++ []) bytes)).0 in
    new (sym (one_entry p y x g f same)))

abbrev path_before : Option Change → Option Names
path_before = option_map (λ (c : Change). c.path)

above_is : (before : Option Change) (p : Names) → IsAbove (path_before before) p → is_above is_path_below (path_before before) p ≡ true
above_is None p h = refl
above_is (Some c) p h = h

rows_fit : (a b : Tree) → AreFit a → AreFit b → (before : Option Change) (rows : Rows) → Rise (path_before before) rows → AllByRecursion (λ row. row.1 ≢ get a row.0) rows → AllByRecursion (λ row. row.1 ≡ get b row.0) rows
    → FitEach (FitsChange (told_tree a)) before (map told_row rows)
rows_fit a b f g before [] rise new is = tt
rows_fit a b f g before (row ∷ rows) rise new is =
    let fit : IfSome row.1 (IsFit row.0) = subst (λ (o : Option Element). IfSome o (IsFit row.0)) (sym is.0) (g row.0) in (
      record {
        path = path_of_row row.0 row.1 (get a row.0) fit (f row.0) new.0;
        above = above_is before row.0 rise.0;
        entry = fits_of row.0 row.1 fit;
        new = new_told row.0 row.1 (get a row.0) fit (f row.0) new.0;
      },
      rows_fit a b f g (Some (told_row row)) rows rise.1 new.1 is.1,
    )

pub changes_fit : (a b : Tree) → IsSayableTree a → IsSayableTree b → FitsChanges (told_tree a) (map told_row (between a b))
changes_fit a b f g =
    let leads = between_leads a b in
    let short : length (map told_row (between a b)) < 2 ^ 32 = omega (arith, length-map (between a b) told_row, between_length a b, f.1, g.1) in
    (short, rows_fit a b f.0 g.0 None (between a b) leads.rise leads.new (each_row (get a) b None (between a b) leads.rise (λ p _. leads.there p)))

-- ---- and they lead to the second tree

told_cond : (t : Bool) (x y : Option Element) → option_map told (cond t x y) ≡ cond t (option_map told x) (option_map told y)
told_cond true x y = refl
told_cond false x y = refl

after_told : (a : Tree) (rows : Rows) (p : Names) → option_map told (after (get a) rows p) ≡ changed (told_tree a) (map told_row rows) p
after_told a [] p = refl
after_told a (row ∷ rows) p =
    told_cond (path_eq row.0 p) row.1 (after (get a) rows p) ∙ ap (λ (o : Option Elem). cond (path_eq row.0 p) (option_map told row.1) o) (after_told a rows p)

pub changes_tell : (a b : Tree) → Tells a (map told_row (between a b)) b
changes_tell a b p = ap (option_map told) (sym ((between_leads a b).there p)) ∙ after_told a (between a b) p
