-- Files that went had stood alone.
use Rattle.std.proofs.Common.{◌≡◌, ℕ, Bool, true, false, cond, not, ◌&&◌, ◌||◌, List, [], ◌∷◌, ◌++◌, refl, sym, ap, ◌∙◌}
use Rattle.std.specs.Prelude.{Option, Some, None, is_some, IfSome}
use Rattle.std.specs.declared.cmp.Ordering.TheVariants.{Less}
use Rattle.std.specs.FinMap.{get, find}
use Rattle.std.specs.List.{AllByRecursion, list_any}
use Rattle.std.specs.Ordering.{eq_by_cmp, is_lt, is_gt}
use Rattle.std.proofs.lemmas.List.Folds.{list_any-append}
use Rattle.res_path.specs.Paths.{Names, path_cmp, path_eq, is_prefix, parent_of}
use Rattle.res_path.proofs.Prefixes.{path_itself, prefix_le, prefix_between}
use Rattle.delta_kind.specs.declared.node.DeltaNode.{DeltaNode}
use Rattle.delta_kind.specs.Deltas.{above, node_with, paths_of}
use Rattle.delta_kind.proofs.Above.{prefix_is, above_parent}
use Rattle.delta_kind.proofs.Rising.{Rises, all_over}
use Rattle.builder_api.specs.Places.{is_below}
use Rattle.builder_api.specs.Files.{Files}
use Rattle.builder_api.proofs.Maps.{same_path, other_path}
use Rattle.builder_api.proofs.Places.{both, neither, itself, split, prefix_of_below}
use Rattle.std_kit.specs.Roots.{files_of_root}
use Rattle.std_kit.specs.Since.{loses, IsAlone, IsCalm}
use Rattle.std_kit.specs.Inside.Walks.{has_none, is_over_node, is_file_of, has_above, stands_alone, is_calm_at, are_calm}
use Rattle.std_kit.proofs.Neighbours.{not_under}
use Rattle.std_kit.proofs.Told.{same, Found, found}
use Rattle.std_kit.proofs.Walks.{seen}

negated : (b : Bool) → not b ≡ true → b ≡ false
negated true h = cc
negated false h = refl

-- ---- nodes below

of_paths : (P : Names → Type 0) (nodes : List DeltaNode) → AllByRecursion P (paths_of nodes) → AllByRecursion (λ node. P node.path) nodes
of_paths P [] h = tt
of_paths P (node ∷ nodes) h = (h.0, of_paths P nodes h.1)

over_node : (p : Names) (nodes : List DeltaNode) → Rises (Some p) (paths_of nodes) → is_over_node p nodes ≡ false → (q : Names) → is_below p q ≡ true → node_with q nodes ≡ None
over_node p [] rises over q below = refl
over_node p (x ∷ nodes) rises over q below =
    by (path_eq q x.path) refl (node_with q nodes)
    (found (λ node. path_cmp x.path node.path ≡ Less) q nodes (of_paths (λ r. path_cmp x.path r ≡ Less) nodes (all_over x.path (paths_of nodes) rises.1)))
  where
    never_over : is_gt (path_cmp x.path q) ≡ false → ⊥
    never_over h =
        let yes : is_prefix p x.path ≡ true = prefix_between p x.path q (ap is_gt rises.0) h (prefix_of_below p q below) in
        let never : true ≡ false = sym yes ∙ over in cc

    by : (b : Bool) → path_eq q x.path ≡ b → (o : Option DeltaNode) → IfSome o (Found q (λ node. path_cmp x.path node.path ≡ Less)) → cond b (Some x) o ≡ None
    by true i o h = absurd (never_over (ap (λ y. is_gt (path_cmp x.path y)) (same q x.path i) ∙ ap is_gt (path_itself x.path)))
    by false i None h = refl
    by false i (Some node) h = absurd (never_over (ap (λ y. is_gt (path_cmp x.path y)) (sym h.path) ∙ ap is_gt h.told))

-- a path stands alone also after a node that comes before it
lift : (root : Names) (view : Files) (nodes : List DeltaNode) (x : DeltaNode) (p : Names) → path_cmp x.path p ≡ Less → IsAlone root view nodes p → IsAlone root view (x ∷ nodes) p
lift root view nodes x p before alone = record {
  inside = alone.inside;
  files = alone.files;
  changes = λ q h. by q h (path_eq q x.path) refl;
  above = alone.above;
}
  where
    by : (q : Names) → is_below p q ≡ true → (b : Bool) → path_eq q x.path ≡ b → cond b (Some x) (node_with q nodes) ≡ None
    by q h true i =
        let less : is_lt (path_cmp q p) ≡ true = ap (λ y. is_lt (path_cmp y p)) (same q x.path i) ∙ ap is_lt before in
        let never : true ≡ false = sym less ∙ not_under p q (prefix_le p q (prefix_of_below p q h)) in cc
    by q h false i = alone.changes q h

lift_all : (root : Names) (view : Files) (nodes : List DeltaNode) (x : DeltaNode) (some : List DeltaNode) → AllByRecursion (λ node. path_cmp x.path node.path ≡ Less) some
    → AllByRecursion (λ node. (is_prefix root node.path && loses node) ≡ true → IsAlone root view nodes node.path) some
    → AllByRecursion (λ node. (is_prefix root node.path && loses node) ≡ true → IsAlone root view (x ∷ nodes) node.path) some
lift_all root view nodes x [] before alone = tt
lift_all root view nodes x (node ∷ some) before alone = ((λ h. lift root view nodes x node.path before.0 (alone.0 h)), lift_all root view nodes x some before.1 alone.1)

-- ---- files below and above

none_in : (es : List (Names × List ℕ)) → has_none es ≡ true → es ≡ []
none_in [] h = refl
none_in (e ∷ es) h = cc

none_below : (p : Names) (view : Files) → has_none (files_of_root p view) ≡ true → (q : Names) → is_below p q ≡ true → get view q ≡ None
none_below p view h q below =
    let s = split p q below in
    ap (get view) s.is ∙ sym (seen p view (s.name ∷ s.rest)) ∙ ap (find path_cmp (p ++ s.name ∷ s.rest)) (none_in (files_of_root p view) h)

not_itself : (q : Names) → is_below q q ≡ false
not_itself [] = refl
not_itself (n ∷ q) = ap (λ b. b && is_below q q) (itself n) ∙ not_itself q

pub below_other : (q p : Names) → is_below q p ≡ true → q ≡ p → ⊥
below_other q p h is = let never : true ≡ false = sym h ∙ ap (is_below q) (sym is) ∙ not_itself q in cc

in_list : (f : Names → Bool) (q : Names) (ps : List Names) → list_any f ps ≡ false → list_any (eq_by_cmp path_cmp q) ps ≡ true → f q ≡ false
in_list f q [] h g = cc
in_list f q (p ∷ ps) h g = let parts = neither (f p) (list_any f ps) h in by parts.0 (eq_by_cmp path_cmp q p) refl g (in_list f q ps parts.1)
  where
    by : f p ≡ false → (b : Bool) → eq_by_cmp path_cmp q p ≡ b → (b || list_any (eq_by_cmp path_cmp q) ps) ≡ true → (list_any (eq_by_cmp path_cmp q) ps ≡ true → f q ≡ false) → f q ≡ false
    by fails true i g next = ap f (same_path q p i) ∙ fails
    by fails false i g next = next g

none_above : (root : Names) (view : Files) (p : Names) → has_above root view p ≡ false → (q : Names) → is_prefix root q ≡ true → is_below q p ≡ true → get view q ≡ None
none_above root view p h q inside below = absent (get view q) (is_prefix root q) inside (in_list (is_file_of root view) q (above p) h
    (listed (list_any (eq_by_cmp path_cmp q) (above p)) (eq_by_cmp path_cmp q p) (sym (prefix_is q p) ∙ prefix_of_below q p below) (other_path q p (below_other q p below))))
  where
    listed : (a b : Bool) → (a || b) ≡ true → b ≡ false → a ≡ true
    listed true b h g = refl
    listed false b h g = let never : true ≡ false = sym h ∙ g in cc

    absent : (x : Option (List ℕ)) (b : Bool) → b ≡ true → (b && is_some x) ≡ false → x ≡ None
    absent None b h g = refl
    absent (Some v) true h g = cc
    absent (Some v) false h g = cc

-- a file above a path lies at its parent or above that
pub above_more : (root : Names) (view : Files) (p q : Names) → parent_of p ≡ Some q → has_above root view p ≡ (is_file_of root view q || has_above root view q)
above_more root view p q h = ap (list_any (is_file_of root view)) (above_parent p q h) ∙ list_any-append (is_file_of root view) (above q) (q ∷ [])
    ∙ by (has_above root view q) (is_file_of root view q)
  where
    by : (a b : Bool) → (a || (b || false)) ≡ (b || a)
    by true true = refl
    by true false = refl
    by false true = refl
    by false false = refl

-- ---- all nodes

four : (a b c d : Bool) → (a && b && c && d) ≡ true → (a ≡ true) × (b ≡ true) × (c ≡ true) × (d ≡ true)
four true true true true h = (refl, refl, refl, refl)
four true true true false h = cc
four true true false d h = cc
four true false c d h = cc
four false b c d h = cc

implied : (a b : Bool) → (not a || b) ≡ true → a ≡ true → b ≡ true
implied true b h g = h
implied false b h g = cc

alone_here : (root : Names) (view : Files) (node : DeltaNode) (later : List DeltaNode) → Rises (Some node.path) (paths_of later) → stands_alone root view node.path later ≡ true
    → IsAlone root view (node ∷ later) node.path
alone_here root view node later rises h =
    let parts = four (is_below root node.path) (not (is_over_node node.path later)) (has_none (files_of_root node.path view)) (not (has_above root view node.path)) h in record {
      inside = parts.0;
      files = none_below node.path view parts.2;
      changes = λ q below. by q below (negated _ parts.1) (path_eq q node.path) refl;
      above = none_above root view node.path (negated _ parts.3);
    }
  where
    by : (q : Names) → is_below node.path q ≡ true → is_over_node node.path later ≡ false → (b : Bool) → path_eq q node.path ≡ b → cond b (Some node) (node_with q later) ≡ None
    by q below over true i = absurd (below_other node.path q below (sym (same q node.path i)))
    by q below over false i = over_node node.path later rises over q below

pub calm : (root o : Names) (view : Files) (l : Option Names) (nodes : List DeltaNode) → Rises l (paths_of nodes) → are_calm root o view nodes ≡ true → IsCalm root o view nodes
calm root o view l [] rises h = record { output = tt; losses = tt }
calm root o view l (node ∷ later) rises h =
    let parts = both (is_calm_at root o view node later) (are_calm root o view later) h in
    let here = both (not (is_below o node.path)) (not (is_prefix root node.path && loses node) || stands_alone root view node.path later) parts.0 in
    let rest = calm root o view (Some node.path) later rises.1 parts.1 in record {
      output = (negated _ here.0, rest.output);
      losses = (
        (λ lost. alone_here root view node later rises.1 (implied _ _ here.1 lost)),
        lift_all root view later node later (of_paths (λ r. path_cmp node.path r ≡ Less) later (all_over node.path (paths_of later) rises.1)) rest.losses,
      );
    }
