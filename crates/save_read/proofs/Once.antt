-- What is kept has one text.
use Rattle.std.proofs.Common.{◌≡◌, ℕ, Bool, true, false, cond, List, [], ◌∷◌, refl, sym, ap, ap₂, ◌∙◌, subst}
use Rattle.std.specs.Prelude.{Option, Some, None, IfSome, not}
use Rattle.std.specs.declared.cmp.Ordering.{Ordering}
use Rattle.std.specs.declared.cmp.Ordering.TheVariants.{Less, Equal, Greater}
use Rattle.std.specs.Ordering.{is_eq}
use Rattle.std.proofs.lemmas.Slice.Eq.{bytes_eq-Decides}
use Rattle.res_path.specs.Paths.{Names, path_cmp, path_eq}
use Rattle.res_path.specs.PathLaws.{path_cmp_total, path_ties}
use Rattle.res_path.proofs.Prefixes.{path_cmp_exact, path_itself}
use Rattle.ws_elem.specs.Trees.{Tree}
use Rattle.ws_durable.specs.Saved.{Saved, SavedBuilt, SavedKept}
use Rattle.tree_rows.proofs.Order.{less, greater_is, met, missed}
use Rattle.save_form.specs.Laws.{FitEach}
use Rattle.save_elem.specs.declared.elem.Elem.{Elem}
use Rattle.save_state.specs.declared.change.Change.{Change}
use Rattle.save_state.specs.declared.records.Built.{Built}
use Rattle.save_state.specs.declared.records.Kept.{Kept}
use Rattle.save_state.specs.declared.state.State.{State}
use Rattle.save_state.specs.Changed.{changed}
use Rattle.save_state.specs.Entries.{Entries, spell_entry}
use Rattle.save_state.specs.Fits.{FitsChange, FitsChanges, FitsBuilt, FitsKept, FitsState}
use Rattle.save_state.specs.States.{is_new}
use Rattle.save_build.specs.Told.{told_tree, AllTold, IsBuiltOf, IsKeptTree, IsKeptOf, IsTold}
use Rattle.save_build.proofs.Whole.{built_fit, kept_fit}
use Rattle.save_read.specs.Texts.{form_of, IsText}

-- ---- changes that lead to the same entries are the same

-- an entry that isn't the base's own is another
new_other : (old entry : Option Elem) → is_new old entry ≡ true → entry ≡ old → ⊥
new_other old entry new same =
    let own = (bytes_eq-Decides (spell_entry old) (spell_entry entry)).1 (ap spell_entry (sym same)) in
    absurd (cc (sym new ∙ ap not own))

module _ (base : Entries) where
  abbrev Fitting : Option Change → List Change → Type 0
  Fitting = FitEach (FitsChange base)

  -- at the path of the first of them stands its entry
  own : (c : Change) (cs : List Change) → changed base (c ∷ cs) c.path ≡ c.entry
  own c cs = ap (λ (t : Bool). cond t c.entry (changed base cs c.path)) (path_ties c.path c.path ∙ ap is_eq (path_itself c.path))

  -- at a path below them the base's
  behind : (p : Names) (c : Change) (cs : List Change) → path_cmp p c.path ≡ Less → Fitting (Some c) cs → changed base cs p ≡ base p
  behind p c [] low fit = refl
  behind p c (d ∷ cs) low fit =
      let lower = path_cmp_total.trans p c.path d.path low (less _ fit.0.above) in
      ap (λ (t : Bool). cond t d.entry (changed base cs p)) (met p d.path ∙ ap is_eq lower) ∙ behind p d cs lower fit.1

  below : (p : Names) (c : Change) (cs : List Change) → path_cmp p c.path ≡ Less → Fitting (Some c) cs → changed base (c ∷ cs) p ≡ base p
  below p c cs low fit = ap (λ (t : Bool). cond t c.entry (changed base cs p)) (met p c.path ∙ ap is_eq low) ∙ behind p c cs low fit

  own_behind : (c : Change) (cs : List Change) → Fitting (Some c) cs → changed base cs c.path ≡ base c.path
  own_behind c [] fit = refl
  own_behind c (d ∷ cs) fit = below c.path d cs (less _ fit.0.above) fit.1

  -- behind two equal ones that lead to the same entries so do the rest
  module _ (c d : Change) (cs ds : List Change) (f : Fitting (Some c) cs) (g : Fitting (Some d) ds) (same : (p : Names) → changed base (c ∷ cs) p ≡ changed base (d ∷ ds) p) (there : c.path ≡ d.path) where
    tails_by : (q : Names) (b : Bool) → path_eq c.path q ≡ b → changed base cs q ≡ changed base ds q
    tails_by q true e =
        let here = missed c.path q (sym (path_ties c.path q) ∙ e) in
        subst (λ (x : Names). changed base cs x ≡ changed base ds x) here (own_behind c cs f ∙ ap base there ∙ sym (own_behind d ds g) ∙ ap (changed base ds) (sym there))
    tails_by q false e =
        let other = ap (λ (x : Names). path_eq x q) (sym there) ∙ e in
        sym (ap (λ (t : Bool). cond t c.entry (changed base cs q)) e) ∙ same q ∙ ap (λ (t : Bool). cond t d.entry (changed base ds q)) other

    tails : (q : Names) → changed base cs q ≡ changed base ds q
    tails q = tails_by q (path_eq c.path q) refl

  first_once : (before after : Option Change) (c d : Change) (cs ds : List Change) → Fitting before (c ∷ cs) → Fitting after (d ∷ ds) → ((p : Names) → changed base (c ∷ cs) p ≡ changed base (d ∷ ds) p)
      → (((p : Names) → changed base cs p ≡ changed base ds p) → cs ≡ ds) → c ∷ cs ≡ d ∷ ds
  first_once before after c d cs ds f g same rest = by (path_cmp c.path d.path) refl
    where
      by : (o : Ordering) → path_cmp c.path d.path ≡ o → c ∷ cs ≡ d ∷ ds
      by Less e = absurd (new_other (base c.path) c.entry f.0.new (sym (own c cs) ∙ same c.path ∙ below c.path d ds e g.1))
      by Greater e = absurd (new_other (base d.path) d.entry g.0.new (sym (own d ds) ∙ sym (same d.path) ∙ below d.path c cs (greater_is c.path d.path e) f.1))
      by Equal e =
          let there = path_cmp_exact c.path d.path e in
          let entry = sym (own c cs) ∙ same c.path ∙ ap (changed base (d ∷ ds)) there ∙ own d ds in
          let one : c ≡ d = λ i. record { path = there i; entry = entry i } in
          ap₂ ◌∷◌ one (rest (tails c d cs ds f.1 g.1 same there))

  pub changes_once : (before after : Option Change) (cs ds : List Change) → Fitting before cs → Fitting after ds → ((p : Names) → changed base cs p ≡ changed base ds p) → cs ≡ ds
  changes_once before after [] [] f g same = refl
  changes_once before after [] (d ∷ ds) f g same = absurd (new_other (base d.path) d.entry g.0.new (sym (own d ds) ∙ sym (same d.path)))
  changes_once before after (c ∷ cs) [] f g same = absurd (new_other (base c.path) c.entry f.0.new (sym (own c cs) ∙ same c.path))
  changes_once before after (c ∷ cs) (d ∷ ds) f g same = first_once before after c d cs ds f g same (changes_once (Some c) (Some d) cs ds f.1 g.1)

-- ---- records that tell the same are the same

module _ (tree : Tree) where
  one_built : (b : SavedBuilt) (x y : Built) (before after : Option Built) → FitsBuilt (told_tree tree) before x → FitsBuilt (told_tree tree) after y → IsBuiltOf tree x b → IsBuiltOf tree y b → x ≡ y
  one_built b x y before after f g p q =
      let project = sym p.project.0 ∙ q.project.0 in
      let index = sym p.index ∙ q.index in
      let command = sym p.command ∙ q.command in
      let references = sym p.references.0 ∙ q.references.0 in
      let changes = changes_once (told_tree tree) None None x.changes y.changes f.changes.1 g.changes.1 (λ n. sym (p.changes n) ∙ q.changes n) in
      λ i. record { project = project i; index = index i; command = command i; references = references i; changes = changes i }

  built_once : (before after : Option Built) (bs : List SavedBuilt) (xs ys : List Built) → FitEach (FitsBuilt (told_tree tree)) before xs → FitEach (FitsBuilt (told_tree tree)) after ys
      → AllTold (IsBuiltOf tree) bs xs → AllTold (IsBuiltOf tree) bs ys → xs ≡ ys
  built_once before after [] [] [] f g p q = refl
  built_once before after [] [] (y ∷ ys) f g p q = absurd q
  built_once before after [] (x ∷ xs) ys f g p q = absurd p
  built_once before after (b ∷ bs) [] ys f g p q = absurd p
  built_once before after (b ∷ bs) (x ∷ xs) [] f g p q = absurd q
  built_once before after (b ∷ bs) (x ∷ xs) (y ∷ ys) f g p q = ap₂ ◌∷◌ (one_built b x y before after f.0 g.0 p.0 q.0) (built_once (Some x) (Some y) bs xs ys f.1 g.1 p.1 q.1)

  one_kept_tree : (t : Option Tree) (x y : Option (List Change)) → IfSome x (FitsChanges (told_tree tree)) → IfSome y (FitsChanges (told_tree tree)) → IsKeptTree tree x t → IsKeptTree tree y t → x ≡ y
  one_kept_tree t None None f g p q = refl
  one_kept_tree None None (Some ds) f g p q = absurd q
  one_kept_tree (Some t) None (Some ds) f g p q = absurd p
  one_kept_tree None (Some cs) y f g p q = absurd p
  one_kept_tree (Some t) (Some cs) None f g p q = absurd q
  one_kept_tree (Some t) (Some cs) (Some ds) f g p q = ap (λ (l : List Change). Some l) (changes_once (told_tree tree) None None cs ds f.1 g.1 (λ n. sym (p.0 n) ∙ q.0 n))

  one_kept : (k : SavedKept) (x y : Kept) (before after : Option Kept) → FitsKept (told_tree tree) before x → FitsKept (told_tree tree) after y → IsKeptOf tree x k → IsKeptOf tree y k → x ≡ y
  one_kept k x y before after f g p q =
      let participant = sym p.participant.0 ∙ q.participant.0 in
      let bytes = sym p.bytes ∙ q.bytes in
      let changes = one_kept_tree k.tree x.changes y.changes f.changes g.changes p.tree_told q.tree_told in
      λ i. record { participant = participant i; bytes = bytes i; changes = changes i }

  kept_once : (before after : Option Kept) (ks : List SavedKept) (xs ys : List Kept) → FitEach (FitsKept (told_tree tree)) before xs → FitEach (FitsKept (told_tree tree)) after ys
      → AllTold (IsKeptOf tree) ks xs → AllTold (IsKeptOf tree) ks ys → xs ≡ ys
  kept_once before after [] [] [] f g p q = refl
  kept_once before after [] [] (y ∷ ys) f g p q = absurd q
  kept_once before after [] (x ∷ xs) ys f g p q = absurd p
  kept_once before after (k ∷ ks) [] ys f g p q = absurd p
  kept_once before after (k ∷ ks) (x ∷ xs) [] f g p q = absurd q
  kept_once before after (k ∷ ks) (x ∷ xs) (y ∷ ys) f g p q = ap₂ ◌∷◌ (one_kept k x y before after f.0 g.0 p.0 q.0) (kept_once (Some x) (Some y) ks xs ys f.1 g.1 p.1 q.1)

-- ---- all

state_once : (base shelf : Tree) (d : Saved) (s t : State) → FitsState (told_tree base) (told_tree shelf) s → FitsState (told_tree base) (told_tree shelf) t → IsTold base shelf s d → IsTold base shelf t d → s ≡ t
state_once base shelf d s t f g p q =
    let node = sym p.next_node ∙ q.next_node in
    let stamp = sym p.next_stamp ∙ q.next_stamp in
    let marker = sym p.next_marker ∙ q.next_marker in
    let partners = sym p.partners.0 ∙ q.partners.0 in
    let tree = changes_once (told_tree base) None None s.tree t.tree f.tree.1 g.tree.1 (λ n. sym (p.tree_told.0 n) ∙ q.tree_told.0 n) in
    let on_shelf = changes_once (told_tree shelf) None None s.shelf t.shelf f.shelf.1 g.shelf.1 (λ n. sym (p.shelf_told.0 n) ∙ q.shelf_told.0 n) in
    let built = built_once d.tree None None d.built s.built t.built (built_fit base s.tree d.tree p.tree_told.0 s.built f.built.1) (built_fit base t.tree d.tree q.tree_told.0 t.built g.built.1) p.built q.built in
    let kept = kept_once d.tree None None d.kept s.kept t.kept (kept_fit base s.tree d.tree p.tree_told.0 s.kept f.kept.1) (kept_fit base t.tree d.tree q.tree_told.0 t.kept g.kept.1) p.kept q.kept in
    λ i. record { next_node = node i; next_stamp = stamp i; next_marker = marker i; partners = partners i; tree = tree i; shelf = on_shelf i; built = built i; kept = kept i }

pub one_bytes : (base shelf : Tree) (d : Saved) (x y : List ℕ) → IsText base shelf d x → IsText base shelf d y → y ≡ x
one_bytes base shelf d x y f g =
    let s = f.spelled in
    let t = g.spelled in
    t.1.2 ∙ ap (form_of base shelf).spell (state_once base shelf d t.0 s.0 t.1.0 s.1.0 t.1.1 s.1.1) ∙ sym s.1.2
