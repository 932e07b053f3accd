-- A path without a node holds the same file bytes, or no file.
use Rattle.std.proofs.Common.{◌≡◌, ℕ, ◌+◌, Bool, true, false, cond, not, ◌&&◌, ◌||◌, List, [], ◌∷◌, refl, sym, ap, ◌∙◌, rules, arith}
use Rattle.std.specs.Prelude.{Option, Some, None, IfSome, ◌==◌}
use Rattle.std.specs.List.{list_any}
use Rattle.std.specs.FinMap.{get}
use Rattle.res_path.specs.Paths.{Names, path_eq}
use Rattle.ws_elem.specs.declared.element.Element.{Element}
use Rattle.ws_elem.specs.declared.kind.Kind.{Kind}
use Rattle.ws_elem.specs.declared.kind.Kind.TheVariants.{File, Folder, Project, Root}
use Rattle.ws_elem.specs.Elements.{file_bytes}
use Rattle.ws_elem.specs.Kinds.{kind_number, is_file}
use Rattle.ws_elem.specs.Stamps.{SameContents}
use Rattle.ws_elem.specs.Trees.{Tree}
use Rattle.delta_kind.specs.declared.node.DeltaNode.{DeltaNode}
use Rattle.delta_kind.specs.Flags.{flag_if, differs, has_content, has_open, has_type, has_sync, has_markers, has_replaced, has_description, has_derived_changed}
use Rattle.delta_kind.specs.Deltas.{delta, node_with, paths_of, TellsContents}
use Rattle.delta_kind.proofs.Moved.{no_flags}
use Rattle.delta_kind.proofs.Same.{untold_same}

no_node : (p : Names) (nodes : List DeltaNode) → node_with p nodes ≡ None → list_any (path_eq p) (paths_of nodes) ≡ false
no_node p [] h = refl
no_node p (node ∷ nodes) h = by (λ k. no_node p nodes k) (path_eq p node.path) refl h
  where
    by : (node_with p nodes ≡ None → list_any (path_eq p) (paths_of nodes) ≡ false)
        → (b : Bool) → path_eq p node.path ≡ b → cond b (Some node) (node_with p nodes) ≡ None → list_any (path_eq p) (paths_of (node ∷ nodes)) ≡ false
    by rest true e g = cc
    by rest false e g = ap (λ b. b || list_any (path_eq p) (paths_of nodes)) e ∙ rest g

-- ---- where a path doesn't differ, its contents stay

file_number : (k : Kind) → is_file k ≡ (kind_number k == 1)
file_number File = refl
file_number Folder = refl
file_number Project = refl
file_number Root = refl

is_kind : (k : Kind) → is_file k ≡ true → k ≡ File
is_kind File h = refl
is_kind Folder h = cc
is_kind Project h = cc
is_kind Root h = cc

same_number : (m n : ℕ) → (m == n) ≡ true → m ≡ n
same_number m n h = search (rules, h)

module _ (a b : Element) (h : differs (Some a) (Some b) ≡ false) where
  same_kind : is_file a.kind ≡ is_file b.kind
  same_kind =
      file_number a.kind ∙ ap (λ n. n == 1) (same_number (kind_number a.kind) (kind_number b.kind) (by (flag_if 0x100 (has_content (Some a) (Some b))) (flag_if 0x4000 (has_open (Some a) (Some b)))
      (flag_if 0x10000 (has_sync (Some a) (Some b))) (flag_if 0x20000 (has_markers (Some a) (Some b))) (flag_if 0x40000 (has_replaced (Some a) (Some b)))
      (flag_if 0x80000 (has_description (Some a) (Some b))) (flag_if 0x400000 (has_derived_changed (Some a) (Some b))) (kind_number a.kind == kind_number b.kind) (no_flags a b h)))
      ∙ sym (file_number b.kind)
    where
      by : (c o y m r d v : ℕ) (s : Bool) → c + o + flag_if 0x8000 (not s) + y + m + r + d + v ≡ 0 → s ≡ true
      by c o y m r d v true h = refl
      by c o y m r d v false h = absurd (omega arith)

  no_content : has_content (Some a) (Some b) ≡ false
  no_content =
      by (flag_if 0x4000 (has_open (Some a) (Some b))) (flag_if 0x8000 (has_type (Some a) (Some b)))
      (flag_if 0x10000 (has_sync (Some a) (Some b))) (flag_if 0x20000 (has_markers (Some a) (Some b))) (flag_if 0x40000 (has_replaced (Some a) (Some b)))
      (flag_if 0x80000 (has_description (Some a) (Some b))) (flag_if 0x400000 (has_derived_changed (Some a) (Some b))) (has_content (Some a) (Some b)) (no_flags a b h)
    where
      by : (o t y m r d v : ℕ) (s : Bool) → flag_if 0x100 s + o + t + y + m + r + d + v ≡ 0 → s ≡ false
      by o t y m r d v false h = refl
      by o t y m r d v true h = absurd (omega arith)

  same_bytes : (a.kind ≡ File → b.kind ≡ File → a.stamp ≡ b.stamp → a.bytes ≡ b.bytes) → file_bytes (Some a) ≡ file_bytes (Some b)
  same_bytes same = by (is_file a.kind) refl (is_file b.kind) refl (a.stamp == b.stamp) refl same_kind no_content
    where
      by : (k : Bool) → is_file a.kind ≡ k → (l : Bool) → is_file b.kind ≡ l → (s : Bool) → (a.stamp == b.stamp) ≡ s → k ≡ l → (k && l && not s) ≡ false
          → file_bytes (Some a) ≡ file_bytes (Some b)
      by true i true j true e kinds content =
          ap (λ k. cond k (Some a.bytes) None) i ∙ ap (λ bytes. Some bytes) (same (is_kind a.kind i) (is_kind b.kind j) (same_number a.stamp b.stamp e))
          ∙ ap (λ k. cond k (Some b.bytes) None) (sym j)
      by true i true j false e kinds content = cc
      by true i false j s e kinds content = cc
      by false i true j s e kinds content = cc
      by false i false j s e kinds content = ap (λ k. cond k (Some a.bytes) None) i ∙ ap (λ k. cond k (Some b.bytes) None) (sym j)

same_files : (x y : Option Element) → differs x y ≡ false
    → IfSome x (λ e. IfSome y (λ f. e.kind ≡ File → f.kind ≡ File → e.stamp ≡ f.stamp → e.bytes ≡ f.bytes)) → file_bytes x ≡ file_bytes y
same_files None None h same = refl
same_files None (Some b) h same = cc
same_files (Some a) None h same = cc
same_files (Some a) (Some b) h same = same_bytes a b h same

pub tells_contents : (a b : Tree) → SameContents a b → TellsContents a b (delta a b)
tells_contents a b same p none = same_files (get a p) (get b p) (untold_same a b p (no_node p (delta a b) none)) (same p p)
