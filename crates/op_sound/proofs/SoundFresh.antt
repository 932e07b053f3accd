-- The fresh workspace's resources are sound.
use Rattle.std.proofs.Common.{◌≡◌, false, [], ◌∷◌, refl, sym, subst, arith}
use Rattle.std.specs.Prelude.{IfSome}
use Rattle.std.specs.FinMap.{empty, get, get-empty}
use Rattle.res_path.specs.Paths.{Names, path_cmp}
use Rattle.ws_elem.specs.Trees.{Tree, fresh_tree}
use Rattle.ws_elem.specs.declared.element.Element.{Element}
use Rattle.ws_elem.specs.declared.kind.Kind.TheVariants.{Root}
use Rattle.ws_elem.proofs.Fresh.{get-fresh_tree, whole-fresh_tree}
use Rattle.op_kind.specs.Resources.{Resources}
use Rattle.op_kind.specs.Places.{has_closed, project_of}
use Rattle.op_kind.specs.Sound.{IsConsistent}
use Rattle.op_kind.specs.Stamps.{IsDrawn, IsKnown}
use Rattle.op_kind.proofs.Cases.{if_there, none_if}
use Rattle.op_sound.proofs.SoundParts.{IsOpen, Fits, Parts, open_kept, open_split, is_kept, open_not_closed, parts_sound}
use Rattle.op_sound.proofs.SoundGrafts.{opened_all}
use Rattle.op_sound.proofs.SoundStamps.{Same, no_marks, no_bytes}

-- nothing is on the shelf
abbrev pub fresh_shelf : Tree
fresh_shelf = empty

-- the root alone, an empty shelf, and the counters after the root's node
abbrev pub fresh_resources : Resources
fresh_resources = record { tree = fresh_tree; shelf = fresh_shelf; next_node = 2; next_stamp = 1; next_marker = 1; partners = [] }

-- what is there is the root
root_at : (A : Element → Type 0) → ((e : Element) → e.kind ≡ Root → A e) → (p : Names) → IfSome (get fresh_tree p) A
root_at A h [] = subst (λ x. IfSome x A) (sym (get-fresh_tree [])) (h _ refl)
root_at A h (n ∷ p) = none_if A (get fresh_tree (n ∷ p)) (get-fresh_tree (n ∷ p))

open_root : (e : Element) → e.kind ≡ Root → IsOpen e
open_root e root project = cc

parts : Parts (get fresh_tree) (get fresh_shelf) (get fresh_tree)
parts q = open_split (is_kept (get fresh_tree) q) (get fresh_tree q) (get fresh_shelf q) (get fresh_tree q) (open_kept (get fresh_tree) q (none_closed (project_of q)))
    (get-empty path_cmp q, opened_all (get fresh_tree q) (root_at IsOpen open_root q))
  where
    none_closed : (p : Names) → has_closed (get fresh_tree p) ≡ false
    none_closed p = open_not_closed (get fresh_tree p) (root_at IsOpen open_root p)

-- the root's numbers are drawn
drawn : (p : Names) → IfSome (get fresh_tree p) (IsDrawn fresh_resources)
drawn [] = subst (λ x. IfSome x (IsDrawn fresh_resources)) (sym (get-fresh_tree [])) record { node = omega arith; stamp = omega arith; desc_stamp = omega arith; marks = no_marks 1; syncs = no_bytes 0 }
drawn (n ∷ p) = none_if (IsDrawn fresh_resources) (get fresh_tree (n ∷ p)) (get-fresh_tree (n ∷ p))

nothing : (A : Element → Type 0) (p : Names) → IfSome (get fresh_shelf p) A
nothing A p = none_if A (get fresh_shelf p) (get-empty path_cmp p)

-- where nothing but a root is there is no file
known : (t : Tree) → ((p : Names) → IfSome (get t p) (IsDrawn fresh_resources)) → ((A : Element → Type 0) → ((e : Element) → e.kind ≡ Root → A e) → (p : Names) → IfSome (get t p) A)
    → IsKnown fresh_resources t
known t d no_file = record {
  drawn = d;
  tree = λ p q. no_file (λ e. IfSome (get fresh_tree q) (λ f. Same e f)) (λ e root. if_there (λ f. Same e f) (get fresh_tree q) (λ f _ file. cc)) p;
  shelf = λ p q. no_file (λ e. IfSome (get fresh_shelf q) (λ f. Same e f)) (λ e _. nothing (λ f. Same e f) q) p;
}

pub fresh_sound : IsConsistent fresh_resources
fresh_sound = parts_sound fresh_resources fresh_tree fits parts (known fresh_tree drawn root_at) (known fresh_shelf (nothing (IsDrawn fresh_resources)) (λ A _. nothing A))
  where
    fits : Fits (get fresh_tree)
    fits = record {
      root = whole-fresh_tree.root;
      only_root = whole-fresh_tree.only_root;
      parents = whole-fresh_tree.parents;
      projects = whole-fresh_tree.projects;
      opened = root_at IsOpen open_root;
      nodes = whole-fresh_tree.nodes;
    }
