-- Creations and deletions keep resources sound.
use Rattle.std.proofs.Common.{◌≡◌, ◌≢◌, ◌↔◌, ℕ, ◌<◌, ◌≤◌, true, false, not, cond, List, [], ◌∷◌, length, refl, sym, ap, ◌∙◌, subst, arith, inr}
use Rattle.std.specs.Prelude.{Option, Some, None, IfSome, IsSomeAnd}
use Rattle.std.specs.FinMap.{get, insert}
use Rattle.std.proofs.lemmas.Bool.Decides.{nat_tests}
use Rattle.res_path.specs.Paths.{Names, parent, is_prefix}
use Rattle.ws_elem.specs.Trees.{Tree, without}
use Rattle.ws_elem.specs.declared.element.Element.{Element}
use Rattle.ws_elem.specs.declared.kind.Kind.TheVariants.{File, Project, Root}
use Rattle.ws_elem.proofs.Cuts.{same_at}
use Rattle.op_kind.specs.declared.refusal.OpRefusal.TheVariants.{ProjectClosed, WrongKind}
use Rattle.op_kind.specs.Resources.{Resources}
use Rattle.op_kind.specs.Places.{project_of, is_project_path, is_member_path, is_root_path, is_shut}
use Rattle.proj_desc.specs.FirstCause.{when, first_cause}
use Rattle.op_kind.specs.Refusals.{creation_causes, deletion_causes, number_causes}
use Rattle.op_kind.specs.Effects.{create, delete, new_file, new_folder, new_project}
use Rattle.op_kind.specs.Sound.{IsConsistent}
use Rattle.op_kind.specs.Stamps.{IsDrawn}
use Rattle.op_kind.proofs.PathsBelow.{never, not_true, prefix_itself}
use Rattle.op_kind.proofs.Cases.{if_as, at_cond, if_map}
use Rattle.op_kind.proofs.Looks.{Look, is_at, get-put, get-without, cut}
use Rattle.op_sound.proofs.SoundParts.{IsOpen, whole_of, whole_parts, whole_fits}
use Rattle.op_sound.proofs.SoundGrafts.{fits_as, parts_as, cut_fits, cut_parts, graft, IsGraft, graft_fits, graft_parts}
use Rattle.op_sound.proofs.SoundStamps.{Comes, IsLater, still, no_marks, no_bytes, stays_tree, stays_shelf}
use Rattle.op_sound.proofs.SoundSteps.{Keeps, passed, some_names, names_at_least, Place, free_place, whole_above, whole_free, tree_free, whole_nodes}

-- ---- creations

-- e alone stands at p
abbrev single : Names → Element → Look
single p e q = cond (is_at q p) (Some e) None

pub at_single : (B : Element → Type 0) (p : Names) (e : Element) (q : Names) → (q ≡ p → B e) → IfSome (single p e q) B
at_single B p e q h = at_cond (λ y. IfSome y B) (is_at q p) (Some e) None (λ same. h (same_at q p same)) (λ _. tt)

-- where nothing is, one element is a graft
pub put_is : (f : Look) (p : Names) (e : Element) → ((q : Names) → is_prefix p q ≡ true → f q ≡ None) → (q : Names)
    → cond (is_at q p) (Some e) (f q) ≡ graft f (single p e) p q
put_is f p e free q = at_cond (λ y. cond (is_at q p) (Some e) (f q) ≡ y) (is_prefix p q) (single p e q) (f q)
    (λ h. ap (cond (is_at q p) (Some e)) (free q h))
    (λ h. ap (λ b. cond b (Some e) (f q)) (not_true (is_at q p) (λ same. never (sym (ap (is_prefix p) (same_at q p same) ∙ prefix_itself p) ∙ h))))

-- a new element, with the next numbers
pub record IsNew (r : Resources) (p : Names) (e : Element) : Type 0 where
  pub project : (e.kind ≡ Project) ↔ (length p ≡ 1)
  pub opened : IsOpen e
  pub no_root : e.kind ≢ Root
  pub node : e.node ≡ r.next_node
  pub stamp : e.kind ≡ File → e.stamp ≡ r.next_stamp
  pub drawn : IsDrawn (create r p e) e

pub single_graft : (r : Resources) (f : Look) (p : Names) (e : Element) → Place (get r.tree) p → IsSomeAnd (f (parent p)) (λ g. g.kind ≢ File)
    → ((q : Names) → IfSome (f q) (λ g. g.node < r.next_node)) → IsNew r p e
    → IsGraft f (single p e) p
single_graft r f p e at above drawn new = record {
  below = at.below;
  above = above;
  within = λ q _ other. at_single (λ _. IsSomeAnd (single p e (parent q)) (λ g. g.kind ≢ File)) p e q (λ same. absurd (other same));
  no_root = λ q. at_single (λ g. g.kind ≢ Root) p e q (λ _. new.no_root);
  projects = λ q _. at_single (λ g. (g.kind ≡ Project) ↔ (length q ≡ 1)) p e q (λ same. subst (λ z. (e.kind ≡ Project) ↔ (length z ≡ 1)) (sym same) new.project);
  opened = λ q. at_single IsOpen p e q (λ _. new.opened);
  nodes = λ q u _ _. at_single (λ g. IfSome (single p e u) (λ h. g.node ≡ h.node → q ≡ u)) p e q (λ same. at_single (λ h. e.node ≡ h.node → q ≡ u) p e u (λ also _. same ∙ sym also));
  apart = λ q u _ _. at_single (λ g. IfSome (f u) (λ h. g.node ≢ h.node)) p e q (λ _. if_map (λ h. h.node < r.next_node) (λ h. e.node ≢ h.node) (f u)
      (λ h less same. let next : e.node ≡ r.next_node = new.node in absurd (omega arith)) (drawn u));
}

pub create_keeps : (r : Resources) (p : Names) (e : Element) → IsConsistent r → Place (get r.tree) p → IsNew r p e → Keeps (λ g. g ≡ e) r (create r p e)
create_keeps r p e x at new = record {
  whole = insert (whole_of r x) p e;
  fits = fits_as (graft (get (whole_of r x)) (single p e) p) (get (insert (whole_of r x) p e)) (is_put (whole_of r x) (whole_free r x p at))
      (graft_fits (get (whole_of r x)) (single p e) p (whole_fits r x) put);
  parts = parts_as (graft (get r.tree) (single p e) p) (get (insert r.tree p e)) (get r.shelf) (get r.shelf) (graft (get (whole_of r x)) (single p e) p) (get (insert (whole_of r x) p e))
      (λ q. sym (is_put r.tree (tree_free r x p at) q)) (λ _. refl) (λ q. sym (is_put (whole_of r x) (whole_free r x p at) q))
      (graft_parts (get r.tree) (get r.shelf) (get (whole_of r x)) (single p e) p at.below at.shown put.opened (whole_parts r x));
  grows = record {
    later = later;
    tree = λ q. if_as (Comes (λ g. g ≡ e) r (create r p e)) (get (insert r.tree p e) q) (cond (is_at q p) (Some e) (get r.tree q)) (get-put r.tree p e q)
        (at_cond (λ z. IfSome z (Comes (λ g. g ≡ e) r (create r p e))) (is_at q p) (Some e) (get r.tree q)
        (λ _. record { drawn = new.drawn; whence = inr refl }) (λ _. stays_tree (λ g. g ≡ e) r (create r p e) later x.tree_known q));
    shelf = stays_shelf (λ g. g ≡ e) r (create r p e) later x.shelf_known;
    late = λ g same file. let is : g.stamp ≡ r.next_stamp = ap (λ z. z.stamp) same ∙ new.stamp (sym (ap (λ z. z.kind) same) ∙ file) in omega arith;
    same = λ g h same also _ _ _. ap (λ z. z.bytes) (same ∙ sym also);
  };
}
  where
    later : IsLater r (create r p e)
    later = (omega arith, omega arith, omega arith, omega arith)

    is_put : (t : Tree) → ((q : Names) → is_prefix p q ≡ true → get t q ≡ None) → (q : Names) → get (insert t p e) q ≡ graft (get t) (single p e) p q
    is_put t free q = get-put t p e q ∙ put_is (get t) p e free q

    put : IsGraft (get (whole_of r x)) (single p e) p
    put = single_graft r (get (whole_of r x)) p e at (whole_above r x p at) (whole_nodes r x) new

-- the root has a stamp that was drawn
pub some_stamp : (r : Resources) → IsConsistent r → 1 ≤ r.next_stamp
some_stamp r x = by (get r.tree []) x.tree.root (x.tree_known.drawn [])
  where
    by : (y : Option Element) → IsSomeAnd y (λ e. e.kind ≡ Root) → IfSome y (IsDrawn r) → 1 ≤ r.next_stamp
    by None h d = absurd h
    by (Some e) h d = let less : e.stamp < r.next_stamp = d.stamp in omega arith

pub created_place : (r : Resources) (p : Names) (stamps : ℕ) → p ≢ [] → first_cause (creation_causes r p stamps) ≡ None → Place (get r.tree) p
created_place r p stamps below h =
    let a = passed (is_shut r.tree p) (ProjectClosed (project_of p)) _ h in
    free_place r.tree p (number_causes r 1 stamps) below a.0 a.1

pub two_names : (p : Names) → not (is_member_path p) ≡ false → 2 ≤ length p
two_names p h = grind (arith, nat_tests)

pub one_name : (p : Names) → not (is_project_path p) ≡ false → length p ≡ 1
one_name p h = grind (arith, nat_tests)

pub file_keeps : (r : Resources) (p : Names) (bytes : List ℕ) → IsConsistent r → first_cause (when (not (is_member_path p)) (WrongKind p) ∷ creation_causes r p 1) ≡ None
    → Keeps (λ g. g ≡ new_file r.next_node r.next_stamp bytes) r (create r p (new_file r.next_node r.next_stamp bytes))
file_keeps r p bytes x h =
    let a = passed (not (is_member_path p)) (WrongKind p) (first_cause (creation_causes r p 1)) h in
    let two : 2 ≤ length p = two_names p a.0 in
    let some : 1 ≤ r.next_stamp = some_stamp r x in
    create_keeps r p (new_file r.next_node r.next_stamp bytes) x (created_place r p 1 (names_at_least p (omega arith)) a.1) record {
      project = (λ e. cc, λ one. absurd (omega arith));
      opened = λ e. cc;
      no_root = λ e. cc;
      node = refl;
      stamp = λ _. refl;
      drawn = record { node = omega arith; stamp = omega arith; desc_stamp = omega arith; marks = no_marks r.next_marker; syncs = no_bytes (length r.partners) };
    }

pub folder_keeps : (r : Resources) (p : Names) → IsConsistent r → first_cause (when (not (is_member_path p)) (WrongKind p) ∷ creation_causes r p 0) ≡ None
    → Keeps (λ g. g ≡ new_folder r.next_node) r (create r p (new_folder r.next_node))
folder_keeps r p x h =
    let a = passed (not (is_member_path p)) (WrongKind p) (first_cause (creation_causes r p 0)) h in
    let two : 2 ≤ length p = two_names p a.0 in
    let some : 1 ≤ r.next_stamp = some_stamp r x in
    create_keeps r p (new_folder r.next_node) x (created_place r p 0 (names_at_least p (omega arith)) a.1) record {
      project = (λ e. cc, λ one. absurd (omega arith));
      opened = λ e. cc;
      no_root = λ e. cc;
      node = refl;
      stamp = λ e. cc;
      drawn = record { node = omega arith; stamp = omega arith; desc_stamp = omega arith; marks = no_marks r.next_marker; syncs = no_bytes (length r.partners) };
    }

pub project_keeps : (r : Resources) (p : Names) → IsConsistent r → first_cause (when (not (is_project_path p)) (WrongKind p) ∷ creation_causes r p 1) ≡ None
    → Keeps (λ g. g ≡ new_project r.next_node r.next_stamp) r (create r p (new_project r.next_node r.next_stamp))
project_keeps r p x h =
    let a = passed (not (is_project_path p)) (WrongKind p) (first_cause (creation_causes r p 1)) h in
    let one : length p ≡ 1 = one_name p a.0 in
    let some : 1 ≤ r.next_stamp = some_stamp r x in
    create_keeps r p (new_project r.next_node r.next_stamp) x (created_place r p 1 (names_at_least p (omega arith)) a.1) record {
      project = (λ _. one, λ _. refl);
      opened = λ _. refl;
      no_root = λ e. cc;
      node = refl;
      stamp = λ e. cc;
      drawn = record { node = omega arith; stamp = omega arith; desc_stamp = omega arith; marks = no_marks r.next_marker; syncs = no_bytes (length r.partners) };
    }

-- ---- deletions

pub delete_keeps : (r : Resources) (p : Names) → IsConsistent r → first_cause (deletion_causes r.tree p) ≡ None → Keeps (λ _. ⊥) r (delete r p)
delete_keeps r p x h = record {
  whole = without (whole_of r x) p;
  fits = fits_as (cut (get (whole_of r x)) p) (get (without (whole_of r x) p)) (get-without (whole_of r x) p) (cut_fits (get (whole_of r x)) p below (whole_fits r x));
  parts = parts_as (cut (get r.tree) p) (get (without r.tree p)) (cut (get r.shelf) p) (get (without r.shelf p)) (cut (get (whole_of r x)) p) (get (without (whole_of r x) p))
      (λ q. sym (get-without r.tree p q)) (λ q. sym (get-without r.shelf p q)) (λ q. sym (get-without (whole_of r x) p q))
      (cut_parts (get r.tree) (get r.shelf) (get (whole_of r x)) p (whole_parts r x));
  grows = record {
    later = still r;
    tree = left r.tree (stays_tree (λ _. ⊥) r (delete r p) (still r) x.tree_known);
    shelf = left r.shelf (stays_shelf (λ _. ⊥) r (delete r p) (still r) x.shelf_known);
    late = λ _ none. absurd none;
    same = λ _ _ none. absurd none;
  };
}
  where
    below : p ≢ []
    below = some_names p (passed (is_root_path p) (WrongKind p) _ h).0

    left : (t : Tree) → ((q : Names) → IfSome (get t q) (Comes (λ _. ⊥) r (delete r p))) → (q : Names) → IfSome (get (without t p) q) (Comes (λ _. ⊥) r (delete r p))
    left t all q = if_as (Comes (λ _. ⊥) r (delete r p)) (get (without t p) q) (cut (get t) p q) (get-without t p q)
        (at_cond (λ z. IfSome z (Comes (λ _. ⊥) r (delete r p))) (is_prefix p q) None (get t q) (λ _. tt) (λ _. all q))
