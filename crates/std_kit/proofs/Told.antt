-- What a delta tells of files.
use Rattle.std.proofs.Common.{◌≡◌, ℕ, Bool, true, false, cond, not, ◌&&◌, ◌||◌, ◌==◌, List, [], ◌∷◌, refl, sym, ap, ◌∙◌, subst, arith}
use Rattle.std.specs.Prelude.{Option, Some, None, is_some, IsSome, IfSome}
use Rattle.std.specs.FinMap.{get}
use Rattle.std.specs.Cmp.Lexicographic.{bytes_decides}
use Rattle.std.specs.List.{AllByRecursion, list_any}
use Rattle.std.specs.Str.{bytes_eq}
use Rattle.res_path.specs.Paths.{Names, path_eq, is_prefix}
use Rattle.res_path.specs.PathLaws.{path_ties}
use Rattle.ws_elem.specs.declared.element.Element.{Element}
use Rattle.ws_elem.specs.declared.kind.Kind.{Kind}
use Rattle.ws_elem.specs.declared.kind.Kind.TheVariants.{File, Folder, Project, Root}
use Rattle.ws_elem.specs.Elements.{file_bytes}
use Rattle.ws_elem.specs.Kinds.{kind_number, is_file}
use Rattle.ws_elem.specs.Trees.{Tree}
use Rattle.delta_kind.specs.declared.node.DeltaNode.{DeltaNode}
use Rattle.delta_kind.specs.Flags.{kind_of, has_type}
use Rattle.delta_kind.specs.Deltas.{delta, cut, node_with, TellsPath}
use Rattle.delta_kind.proofs.Contents.{tells_contents}
use Rattle.delta_kind.proofs.Flagged.{tells_paths}
use Rattle.builder_api.specs.Places.{is_within, is_below}
use Rattle.builder_api.specs.Files.{files_of}
use Rattle.builder_api.specs.Tasks.{Task}
use Rattle.builder_api.specs.Meanings.{Meaning}
use Rattle.builder_api.specs.Lawful.{scope, IsSince}
use Rattle.builder_api.proofs.Maps.{same_path}
use Rattle.builder_api.proofs.Places.{both, neither, or_true, prefix_of_below}
use Rattle.builder_api.proofs.Trees.{get-files_of}
use Rattle.std_kit.specs.Since.{loses}

-- ---- nodes that are found

pub same : (p q : Names) → path_eq p q ≡ true → p ≡ q
same p q h = same_path p q (sym (path_ties p q) ∙ h)

-- the node that is found at a path
pub record Found (q : Names) (P : DeltaNode → Type 0) (node : DeltaNode) : Type 0 where
  pub path : node.path ≡ q
  pub told : P node

pub found : (P : DeltaNode → Type 0) (q : Names) (nodes : List DeltaNode) → AllByRecursion P nodes → IfSome (node_with q nodes) (Found q P)
found P q [] h = tt
found P q (x ∷ nodes) h = by (path_eq q x.path) refl (found P q nodes h.1)
  where
    by : (b : Bool) → path_eq q x.path ≡ b → IfSome (node_with q nodes) (Found q P) → IfSome (cond b (Some x) (node_with q nodes)) (Found q P)
    by true i next = record { path = sym (same q x.path i); told = h.0 }
    by false i next = next

pub none_pass : (test : DeltaNode → Bool) (nodes : List DeltaNode) → list_any test nodes ≡ false → AllByRecursion (λ node. test node ≡ false) nodes
none_pass test [] h = tt
none_pass test (x ∷ nodes) h = let parts = neither (test x) (list_any test nodes) h in (parts.0, none_pass test nodes parts.1)

-- a cut finds what lies within
cut_found : (roots : List Names) (nodes : List DeltaNode) (q : Names) → is_within roots q ≡ true → node_with q (cut roots nodes) ≡ node_with q nodes
cut_found roots [] q h = refl
cut_found roots (x ∷ nodes) q h = by (path_eq q x.path) refl (is_within roots x.path) refl (cut_found roots nodes q h)
  where
    by : (a : Bool) → path_eq q x.path ≡ a → (b : Bool) → is_within roots x.path ≡ b → node_with q (cut roots nodes) ≡ node_with q nodes
        → node_with q (cond b (x ∷ cut roots nodes) (cut roots nodes)) ≡ cond a (Some x) (node_with q nodes)
    by true i true j next = ap (λ a. cond a (Some x) (node_with q (cut roots nodes))) i
    by true i false j next = let never : true ≡ false = sym h ∙ ap (is_within roots) (same q x.path i) ∙ j in cc
    by false i true j next = ap (λ a. cond a (Some x) (node_with q (cut roots nodes))) i ∙ next
    by false i false j next = next

-- ---- paths of a task lie where the delta tells

through : (p q r : Names) → is_prefix p q ≡ true → is_prefix q r ≡ true → is_prefix p r ≡ true
through [] q r h g = refl
through (n ∷ p) [] r h g = cc
through (n ∷ p) (m ∷ q) [] h g = cc
through (n ∷ p) (m ∷ q) (k ∷ r) h g =
    let one = both (bytes_eq n m) (is_prefix p q) h in
    let two = both (bytes_eq m k) (is_prefix q r) g in
    let same : n ≡ k = (bytes_decides n m).0 one.0 ∙ (bytes_decides m k).0 two.0 in
    λ i. (bytes_decides n k).1 same i && through p q r one.1 two.1 i

within_more : (roots : List Names) (p q : Names) → is_within roots p ≡ true → is_prefix p q ≡ true → is_within roots q ≡ true
within_more [] p q h g = cc
within_more (root ∷ roots) p q h g = by (is_prefix root p) refl h (λ h. within_more roots p q h g)
  where
    by : (b : Bool) → is_prefix root p ≡ b → (b || is_within roots p) ≡ true → (is_within roots p ≡ true → is_within roots q ≡ true) → (is_prefix root q || is_within roots q) ≡ true
    by true i h next = ap (λ b. b || is_within roots q) (through root p q i g)
    by false i h next = ap (λ b. is_prefix root q || b) (next h) ∙ or_true (is_prefix root q)

inputs_within : (roots inputs : List Names) (q : Names) → AllByRecursion (λ p. is_within roots p ≡ true) inputs → is_within inputs q ≡ true → is_within roots q ≡ true
inputs_within roots [] q h g = cc
inputs_within roots (p ∷ inputs) q h g = by (is_prefix p q) refl g (inputs_within roots inputs q h.1)
  where
    by : (b : Bool) → is_prefix p q ≡ b → (b || is_within inputs q) ≡ true → (is_within inputs q ≡ true → is_within roots q ≡ true) → is_within roots q ≡ true
    by true i g next = within_more roots p q h.0 i
    by false i g next = next g

task_within : (roots : List Names) (c : Task) (q : Names) → AllByRecursion (λ p. is_within roots p ≡ true) (c.output ∷ c.inputs) → (is_within c.inputs q || is_below c.output q) ≡ true
    → is_within roots q ≡ true
task_within roots c q h g = by (is_within c.inputs q) refl g
  where
    by : (b : Bool) → is_within c.inputs q ≡ b → (b || is_below c.output q) ≡ true → is_within roots q ≡ true
    by true i g = inputs_within roots c.inputs q h.1 i
    by false i g = within_more roots c.output q h.0 (prefix_of_below c.output q g)

-- ---- files before and after

same_kinds : (k l : Kind) → not (kind_number k == kind_number l) ≡ false → is_file k ≡ is_file l
same_kinds File File h = refl
same_kinds File Folder h = cc
same_kinds File Project h = cc
same_kinds File Root h = cc
same_kinds Folder File h = cc
same_kinds Folder Folder h = refl
same_kinds Folder Project h = refl
same_kinds Folder Root h = refl
same_kinds Project File h = cc
same_kinds Project Folder h = refl
same_kinds Project Project h = refl
same_kinds Project Root h = refl
same_kinds Root File h = cc
same_kinds Root Folder h = refl
same_kinds Root Project h = refl
same_kinds Root Root h = refl

is_there : (b : Bool) (bytes : List ℕ) → is_some (cond b (Some bytes) None) ≡ b
is_there true bytes = refl
is_there false bytes = refl

still_there : (x y : Option Element) → (kind_of x y == 2 || has_type x y) ≡ false → IsSome (file_bytes x) → IsSome (file_bytes y)
still_there None y h g = cc
still_there (Some a) None h g = cc
still_there (Some a) (Some b) h g = is_there (is_file b.kind) b.bytes ∙ sym (same_kinds a.kind b.kind h) ∙ sym (is_there (is_file a.kind) a.bytes) ∙ g

module _ (m : Meaning) (c : Task) (nodes : List DeltaNode) (last now : Tree) (since : IsSince m c nodes last now) where
  as_whole : (q : Names) → (is_within c.inputs q || is_below c.output q) ≡ true → node_with q nodes ≡ node_with q (delta last now)
  as_whole q h = ap (node_with q) since.delta.told
      ∙ cut_found (scope since.delta.project since.delta.references) (delta last now) q (task_within (scope since.delta.project since.delta.references) c q since.delta.inside h)

  -- what has no node is as it was
  pub kept : (q : Names) → (is_within c.inputs q || is_below c.output q) ≡ true → node_with q nodes ≡ None → get (files_of last) q ≡ get (files_of now) q
  kept q h none = get-files_of last q ∙ tells_contents last now (since.stamps 0 last (omega arith) 1 last (omega arith)) q (sym (as_whole q h) ∙ none) ∙ sym (get-files_of now q)

  -- where the node of a path loses nothing a file is there if one was
  pub stayed : (q : Names) (node : DeltaNode) → (is_within c.inputs q || is_below c.output q) ≡ true → node_with q nodes ≡ Some node → loses node ≡ false
      → IsSome (get (files_of last) q) → IsSome (get (files_of now) q)
  stayed q node h is loses_not was =
      let it : Found q (TellsPath last now) node = subst (λ o. IfSome o (Found q (TellsPath last now))) (sym (as_whole q h) ∙ is) (found (TellsPath last now) q (delta last now) (tells_paths last now)) in
      let here : (kind_of (get last q) (get now q) == 2 || has_type (get last q) (get now q)) ≡ false
      = subst (λ p. (kind_of (get last p) (get now p) == 2 || has_type (get last p) (get now p)) ≡ false) it.path
      ((λ i. sym it.told.kind i == 2 || sym it.told.other_kind i) ∙ loses_not) in
      subst IsSome (sym (get-files_of now q)) (still_there (get last q) (get now q) here (subst IsSome (get-files_of last q) was))
