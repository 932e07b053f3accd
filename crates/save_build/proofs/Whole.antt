-- What is told of two is one.
use Rattle.std.proofs.Common.{◌≡◌, List, [], ◌∷◌, refl, sym, ap, ap₂, ◌∙◌, subst}
use Rattle.std.specs.Prelude.{Option, Some, None, IfSome}
use Rattle.std.specs.Option.{option_map}
use Rattle.std.specs.FinMap.{get, same_map}
use Rattle.res_path.specs.Paths.{Names}
use Rattle.res_path.specs.PathLaws.{path_cmp_total}
use Rattle.res_path.proofs.Prefixes.{path_cmp_exact}
use Rattle.ws_elem.specs.declared.element.Element.{Element}
use Rattle.ws_elem.specs.Trees.{Tree}
use Rattle.ws_durable.specs.Saved.{Saved, SavedBuilt, SavedKept}
use Rattle.save_form.specs.Laws.{FitEach}
use Rattle.save_elem.specs.Telling.{told}
use Rattle.save_elem.proofs.Items.{told_same}
use Rattle.save_state.specs.declared.change.Change.{Change}
use Rattle.save_state.specs.declared.records.Built.{Built}
use Rattle.save_state.specs.declared.records.Kept.{Kept}
use Rattle.save_state.specs.declared.state.State.{State}
use Rattle.save_state.specs.Changed.{changed}
use Rattle.save_state.specs.Entries.{Entries}
use Rattle.save_state.specs.Fits.{FitsBuilt, FitsKept}
use Rattle.save_build.specs.Told.{told_tree, Tells, IsFit, AreFit, AllTold, IsBuiltOf, IsKeptTree, IsKeptOf, IsTold}

-- ---- trees

pub one_entry : (p : Names) (x y : Option Element) → IfSome x (IsFit p) → IfSome y (IsFit p) → option_map told x ≡ option_map told y → x ≡ y
one_entry p None None f g e = refl
one_entry p None (Some y) f g e = absurd cc
one_entry p (Some x) None f g e = absurd cc
one_entry p (Some x) (Some y) f g e = let same : told x ≡ told y = cc in ap (λ (z : Element). Some z) (told_same x y f.sound g.sound same)

pub one_map : (t u : Tree) → AreFit t → AreFit u → ((p : Names) → told_tree t p ≡ told_tree u p) → t ≡ u
one_map t u f g same = same_map path_cmp_total path_cmp_exact t u (λ p. one_entry p (get t p) (get u p) (f p) (g p) (same p))

pub one_tree : (base : Tree) (cs : List Change) (t u : Tree) → Tells base cs t × AreFit t → Tells base cs u × AreFit u → t ≡ u
one_tree base cs t u f g = one_map t u f.1 g.1 (λ p. f.0 p ∙ sym (g.0 p))

-- the base of what is told from the tree
pub told_base : (base : Tree) (cs : List Change) (t : Tree) → Tells base cs t → changed (told_tree base) cs ≡ told_tree t
told_base base cs t tells = sym (λ i p. tells p i)

pub built_fit : (base : Tree) (cs : List Change) (t : Tree) → Tells base cs t → (bs : List Built) → FitEach (FitsBuilt (changed (told_tree base) cs)) None bs → FitEach (FitsBuilt (told_tree t)) None bs
built_fit base cs t tells bs h = subst (λ (e : Entries). FitEach (FitsBuilt e) None bs) (told_base base cs t tells) h

pub kept_fit : (base : Tree) (cs : List Change) (t : Tree) → Tells base cs t → (ks : List Kept) → FitEach (FitsKept (changed (told_tree base) cs)) None ks → FitEach (FitsKept (told_tree t)) None ks
kept_fit base cs t tells ks h = subst (λ (e : Entries). FitEach (FitsKept e) None ks) (told_base base cs t tells) h

-- ---- records

one_list : {A B : Type 0} (R : B → A → Type 0) → ((b : B) (x y : A) → R b x → R b y → x ≡ y) → (bs : List B) (xs ys : List A) → AllTold R xs bs → AllTold R ys bs → xs ≡ ys
one_list R one [] [] [] f g = refl
one_list R one [] [] (y ∷ ys) f g = absurd g
one_list R one [] (x ∷ xs) ys f g = absurd f
one_list R one (b ∷ bs) [] ys f g = absurd f
one_list R one (b ∷ bs) (x ∷ xs) [] f g = absurd g
one_list R one (b ∷ bs) (x ∷ xs) (y ∷ ys) f g = ap₂ ◌∷◌ (one b x y f.0 g.0) (one_list R one bs xs ys f.1 g.1)

one_built : (tree : Tree) (c : Built) (x y : SavedBuilt) → IsBuiltOf tree c x → IsBuiltOf tree c y → x ≡ y
one_built tree c x y f g =
    let p = f.project.0 ∙ sym g.project.0 in
    let n = f.index ∙ sym g.index in
    let m = f.command ∙ sym g.command in
    let r = f.references.0 ∙ sym g.references.0 in
    let t = one_tree tree c.changes x.tree y.tree (f.changes, f.fit) (g.changes, g.fit) in
    λ i. record { project = p i; index = n i; command = m i; references = r i; tree = t i }

one_kept_tree : (tree : Tree) (cs : Option (List Change)) (x y : Option Tree) → IsKeptTree tree cs x → IsKeptTree tree cs y → x ≡ y
one_kept_tree tree None None None f g = refl
one_kept_tree tree None None (Some y) f g = absurd g
one_kept_tree tree None (Some x) y f g = absurd f
one_kept_tree tree (Some cs) None y f g = absurd f
one_kept_tree tree (Some cs) (Some x) None f g = absurd g
one_kept_tree tree (Some cs) (Some x) (Some y) f g = ap (λ (t : Tree). Some t) (one_tree tree cs x y f g)

one_kept : (tree : Tree) (c : Kept) (x y : SavedKept) → IsKeptOf tree c x → IsKeptOf tree c y → x ≡ y
one_kept tree c x y f g =
    let p = f.participant.0 ∙ sym g.participant.0 in
    let b = f.bytes ∙ sym g.bytes in
    let t = one_kept_tree tree c.changes x.tree y.tree f.tree_told g.tree_told in
    λ i. record { participant = p i; bytes = b i; tree = t i }

-- ---- all

module _ (base shelf : Tree) (s : State) (d : Saved) (told : IsTold base shelf s d) where
  same_tree : (t : Tree) → Tells base s.tree t × AreFit t → d.tree ≡ t
  same_tree t h = one_tree base s.tree d.tree t told.tree_told h

  pub built_from : (t : Tree) → Tells base s.tree t × AreFit t → AllTold (IsBuiltOf t) d.built s.built
  built_from t h = subst (λ (u : Tree). AllTold (IsBuiltOf u) d.built s.built) (same_tree t h) told.built

  pub kept_from : (t : Tree) → Tells base s.tree t × AreFit t → AllTold (IsKeptOf t) d.kept s.kept
  kept_from t h = subst (λ (u : Tree). AllTold (IsKeptOf u) d.kept s.kept) (same_tree t h) told.kept

  pub one_saved : (e : Saved) → IsTold base shelf s e → d ≡ e
  one_saved e other =
      let n = told.next_node ∙ sym other.next_node in
      let st = told.next_stamp ∙ sym other.next_stamp in
      let m = told.next_marker ∙ sym other.next_marker in
      let p = told.partners.0 ∙ sym other.partners.0 in
      let t = same_tree e.tree other.tree_told in
      let h = one_tree shelf s.shelf d.shelf e.shelf told.shelf_told other.shelf_told in
      let b = one_list (IsBuiltOf e.tree) (one_built e.tree) s.built d.built e.built (built_from e.tree other.tree_told) other.built in
      let k = one_list (IsKeptOf e.tree) (one_kept e.tree) s.kept d.kept e.kept (kept_from e.tree other.tree_told) other.kept in
      λ i. record { next_node = n i; next_stamp = st i; next_marker = m i; partners = p i; tree = t i; shelf = h i; built = b i; kept = k i }
