-- The rows of two trees tell what the trees tell.
use Rattle.std.proofs.Common.{◌≡◌, ◌↔◌, ℕ, Bool, true, false, cond, not, ◌&&◌, ◌||◌, List, [], ◌∷◌, ◌++◌, length, map, refl, sym, ap, ◌∙◌, arith, rules, ◌+◌}
use Rattle.std.specs.Prelude.{Option, Some, None, is_some, ◌==◌}
use Rattle.std.specs.Bool.{beq}
use Rattle.std.specs.Option.{option_and_then}
use Rattle.std.specs.FinMap.{empty, get, entries, keys, find, get-empty, get-entries, same_map, contains_key-keys, len-empty, len-entries}
use Rattle.std.specs.FinMap.Entries.{is_some-find}
use Rattle.std.specs.Cmp.Lexicographic.{bytes_decides}
use Rattle.std.proofs.lemmas.Grind.{common_steps}
use Rattle.std.specs.List.{list_any}
use Rattle.std.specs.Ordering.{eq_by_cmp, is_eq}
use Rattle.std.proofs.lemmas.List.Folds.{list_any-append}
use Rattle.res_path.specs.Paths.{Names, path_cmp, path_eq, is_prefix}
use Rattle.mark_set.specs.Deltas.{marker_deltas}
use Rattle.res_path.specs.PathLaws.{path_cmp_total, path_ties}
use Rattle.res_path.proofs.Prefixes.{path_cmp_exact, path_itself}
use Rattle.ws_elem.specs.declared.element.Element.{Element}
use Rattle.ws_elem.specs.Kinds.{kind_number, is_file, is_project}
use Rattle.ws_elem.specs.Trees.{Tree}
use Rattle.ws_elem.proofs.Cuts.{any_filter, same_at}
use Rattle.delta_kind.specs.declared.node.DeltaNode.{DeltaNode}
use Rattle.delta_kind.specs.Flags.{flag_if, moved_flags, differs}
use Rattle.delta_kind.specs.Rows.{lost}
use Rattle.delta_kind.proofs.Turns.{place_of, moved_is}
use Rattle.delta_kind.specs.declared.row.Turn.TheVariants.{Lost, Gained}
use Rattle.delta_kind.specs.Deltas.{node_of, node_at, changed, with_above, delta, paths_of, InPathOrder}
use Rattle.delta_kind.specs.Rows.{Rows, Sides, row_paths, place_in, node_by, delta_of_rows}
use Rattle.delta_kind.proofs.Merged.{RowsOf}
use Rattle.delta_kind.proofs.Told.{above_set, get-above_set, node_found, node_in}
use Rattle.delta_kind.proofs.Moved.{no_flags, same_markers, idle_syncs, idle_marks, nothing_flagged, no_marker_deltas, none_lost, none_gained, losers_are, gainers_are}
use Rattle.delta_kind.proofs.Rising.{Rises, sorted_rises}

-- ---- tests of all paths of a list

both_ways : (x y : Bool) → (x ≡ true → y ≡ true) → (y ≡ true → x ≡ true) → x ≡ y
both_ways true y f g = sym (f refl)
both_ways false true f g = g refl
both_ways false false f g = refl

or_right : (a : Bool) → (a || true) ≡ true
or_right true = refl
or_right false = refl

-- one that passes
passing : (f : Names → Bool) (ps : List Names) → list_any f ps ≡ true → (p : Names) × (f p ≡ true) × (list_any (eq_by_cmp path_cmp p) ps ≡ true)
passing f [] h = cc
passing f (p ∷ ps) h = by (f p) refl h (passing f ps)
  where
    by : (b : Bool) → f p ≡ b → (b || list_any f ps) ≡ true → (list_any f ps ≡ true → (q : Names) × (f q ≡ true) × (list_any (eq_by_cmp path_cmp q) ps ≡ true))
        → (q : Names) × (f q ≡ true) × ((eq_by_cmp path_cmp q p || list_any (eq_by_cmp path_cmp q) ps) ≡ true)
    by true e i more = (p, e, ap (λ b. b || list_any (eq_by_cmp path_cmp p) ps) (ap is_eq (path_itself p)))
    by false e i more = let rest = more i in (rest.0, rest.1, ap (λ b. eq_by_cmp path_cmp rest.0 p || b) rest.2 ∙ or_right (eq_by_cmp path_cmp rest.0 p))

-- one that is there passes
there : (f : Names → Bool) (p : Names) (ps : List Names) → f p ≡ true → list_any (eq_by_cmp path_cmp p) ps ≡ true → list_any f ps ≡ true
there f p [] h g = cc
there f p (q ∷ ps) h g = by (eq_by_cmp path_cmp p q) refl g (there f p ps h)
  where
    by : (b : Bool) → eq_by_cmp path_cmp p q ≡ b → (b || list_any (eq_by_cmp path_cmp p) ps) ≡ true → (list_any (eq_by_cmp path_cmp p) ps ≡ true → list_any f ps ≡ true) → (f q || list_any f ps) ≡ true
    by true e i more = ap (λ b. b || list_any f ps) (ap f (sym (same_at p q e)) ∙ h)
    by false e i more = ap (λ b. f q || b) (more i) ∙ or_right (f q)

same_any : (f : Names → Bool) (ps qs : List Names) → ((p : Names) → list_any (eq_by_cmp path_cmp p) ps ≡ list_any (eq_by_cmp path_cmp p) qs) → list_any f ps ≡ list_any f qs
same_any f ps qs h = both_ways _ _
    (λ g. let one = passing f ps g in there f one.0 qs one.1 (sym (h one.0) ∙ one.2))
    (λ g. let one = passing f qs g in there f one.0 ps one.1 (h one.0 ∙ one.2))

-- ---- the paths that differ

and_true : (a : Bool) → (a && true) ≡ a
and_true true = refl
and_true false = refl

differ_there : (x y : Option Element) → (differs x y && (is_some x || is_some y)) ≡ differs x y
differ_there None None = refl
differ_there None (Some b) = refl
differ_there (Some a) None = refl
differ_there (Some a) (Some b) = and_true (differs (Some a) (Some b))

pub changed_has : (a b : Tree) (p : Names) → list_any (eq_by_cmp path_cmp p) (changed a b) ≡ differs (get a p) (get b p)
changed_has a b p =
    any_filter (λ q. differs (get a q) (get b q)) p (keys a ++ keys b)
    ∙ ap (λ c. differs (get a p) (get b p) && c) (list_any-append (eq_by_cmp path_cmp p) (keys a) (keys b) ∙ (λ i. sym (contains_key-keys a p) i || sym (contains_key-keys b p) i))
    ∙ differ_there (get a p) (get b p)

rows_have : (a b : Tree) (rows : Rows) → RowsOf a b rows → (p : Names) → list_any (eq_by_cmp path_cmp p) (row_paths rows) ≡ differs (get a p) (get b p)
rows_have a b rows h p = sym (is_some-find path_cmp p rows) ∙ ap is_some (h p) ∙ by (get a p, get b p) (differs (get a p) (get b p))
  where
    by : (s : Sides) (c : Bool) → is_some (cond c (Some s) None) ≡ c
    by s true = refl
    by s false = refl

same_above : (a b : Tree) (rows : Rows) → RowsOf a b rows → with_above (row_paths rows) ≡ with_above (changed a b)
same_above a b rows h = ap keys (same_map path_cmp_total path_cmp_exact (above_set (row_paths rows)) (above_set (changed a b)) (λ q.
    get-above_set (row_paths rows) q
    ∙ ap (λ c. cond c (Some tt) None) (same_any (is_prefix q) (row_paths rows) (changed a b) (λ p. rows_have a b rows h p ∙ sym (changed_has a b p)))
    ∙ sym (get-above_set (changed a b) q)))

-- a path that doesn't differ has the node of one that is not there
idle_node : (f g : ℕ → Option Names) (p : Names) (x y : Option Element) → differs x y ≡ false → node_by f g p (None, None) ≡ node_by f g p (x, y)
idle_node f g p None None h = refl
idle_node f g p None (Some b) h = cc
idle_node f g p (Some a) None h = cc
idle_node f g p (Some a) (Some b) h =
    let from : option_and_then f (lost (Some b) (Some a)) ≡ None = ap (option_and_then f) (none_gained (Some a) (Some b) h) in
    let to : option_and_then g (lost (Some a) (Some b)) ≡ None = ap (option_and_then g) (none_lost (Some a) (Some b) h) in
    let still : marker_deltas empty empty ≡ marker_deltas a.attached.marks b.attached.marks = no_marker_deltas empty ∙ sym (no_marker_deltas b.attached.marks) ∙ ap (λ m. marker_deltas m b.attached.marks) (sym (same_markers a b h)) in
    λ i. record { path = p; kind = 4; flags = (nothing_flagged ∙ sym (no_flags a b h)) i + moved_flags (sym from i) (sym to i); moved_from = sym from i; moved_to = sym to i; markers = still i }

node_there : (a b : Tree) (rows : Rows) → RowsOf a b rows → Rises None (row_paths rows) → (p : Names) → node_in (place_in Lost rows) (place_in Gained rows) rows p ≡ node_at a b p
node_there a b rows h up p =
    (λ i. node_found (λ n. losers_are a b rows h up n i) (λ n. gainers_are a b rows h up n i) p (h p i)) ∙ by (differs (get a p) (get b p)) refl
  where
    by_turns : node_by (place_of a b) (place_of b a) p (get a p, get b p) ≡ node_at a b p
    by_turns = λ i. node_of p (get a p) (get b p) (sym (moved_is a b p) i) (sym (moved_is b a p) i)

    by : (c : Bool) → differs (get a p) (get b p) ≡ c → node_found (place_of a b) (place_of b a) p (cond c (Some (get a p, get b p)) None) ≡ node_at a b p
    by true e = by_turns
    by false e = idle_node (place_of a b) (place_of b a) p (get a p) (get b p) e ∙ by_turns

map_same : (f g : Names → DeltaNode) → ((p : Names) → f p ≡ g p) → (ps : List Names) → map f ps ≡ map g ps
map_same f g h [] = refl
map_same f g h (p ∷ ps) = λ i. h p i ∷ map_same f g h ps i

-- the delta of the rows of two trees is that of the trees
pub rows_delta : (a b : Tree) (rows : Rows) → RowsOf a b rows → InPathOrder (row_paths rows) → delta_of_rows rows ≡ delta a b
rows_delta a b rows h order =
    map_same (node_in (place_in Lost rows) (place_in Gained rows) rows) (node_at a b) (node_there a b rows h (sorted_rises (row_paths rows) order)) (with_above (row_paths rows))
    ∙ ap (map (node_at a b)) (same_above a b rows h)

-- ---- which paths a delta tells

paths_at : (a b : Tree) (ps : List Names) → paths_of (map (node_at a b) ps) ≡ ps
paths_at a b [] = refl
paths_at a b (p ∷ ps) = ap (λ qs. p ∷ qs) (paths_at a b ps)

pub delta_paths : (a b : Tree) → paths_of (delta a b) ≡ with_above (changed a b)
delta_paths a b = paths_at a b (with_above (changed a b))

any_tied : (p : Names) (ps : List Names) → list_any (path_eq p) ps ≡ list_any (eq_by_cmp path_cmp p) ps
any_tied p [] = refl
any_tied p (q ∷ ps) = λ i. path_ties p q i || any_tied p ps i

-- it, or a path below it, differs
pub delta_has : (a b : Tree) (p : Names) → list_any (path_eq p) (paths_of (delta a b)) ≡ list_any (is_prefix p) (changed a b)
delta_has a b p =
    any_tied p (paths_of (delta a b)) ∙ ap (list_any (eq_by_cmp path_cmp p)) (delta_paths a b)
    ∙ sym (contains_key-keys (above_set (changed a b)) p) ∙ ap is_some (get-above_set (changed a b) p) ∙ by tt (list_any (is_prefix p) (changed a b))
  where
    by : (u : Unit {0}) (c : Bool) → is_some (cond c (Some u) None) ≡ c
    by u true = refl
    by u false = refl

prefix_itself : (p : Names) → is_prefix p p ≡ true
prefix_itself [] = refl
prefix_itself (n ∷ p) = ap (λ b. b && is_prefix p p) ((bytes_decides n n).1 refl) ∙ prefix_itself p

-- a path that it doesn't tell doesn't differ
pub untold_same : (a b : Tree) (p : Names) → list_any (path_eq p) (paths_of (delta a b)) ≡ false → differs (get a p) (get b p) ≡ false
untold_same a b p h = by (differs (get a p) (get b p)) refl
  where
    by : (c : Bool) → differs (get a p) (get b p) ≡ c → c ≡ false
    by false e = refl
    by true e =
        let told : list_any (is_prefix p) (changed a b) ≡ true = there (is_prefix p) p (changed a b) (prefix_itself p) (changed_has a b p ∙ e) in
        sym told ∙ sym (delta_has a b p) ∙ h

-- ---- when a delta tells nothing

nothing_found : (a b : Tree) → delta a b ≡ [] → (p : Names) → differs (get a p) (get b p) ≡ false
nothing_found a b h p = untold_same a b p (ap (λ nodes. list_any (path_eq p) (paths_of nodes)) h)

nothing_told : (a b : Tree) → ((p : Names) → differs (get a p) (get b p) ≡ false) → delta a b ≡ []
nothing_told a b h =
    ap (λ s. map (node_at a b) (keys s)) (same_map path_cmp_total path_cmp_exact (above_set (changed a b)) empty (λ q.
    get-above_set (changed a b) q ∙ ap (λ c. cond c (Some tt) None) (same_any (is_prefix q) (changed a b) [] (λ p. changed_has a b p ∙ h p)) ∙ sym (get-empty path_cmp q)))
    ∙ ap (λ (es : List (Names × (Unit {0}))). map (node_at a b) (map (λ e. e.0) es)) (of_length (entries empty) (sym (len-entries empty) ∙ len-empty path_cmp (Unit {0})))
  where
    of_length : (es : List (Names × (Unit {0}))) → length es ≡ 0 → es ≡ []
    of_length [] h = refl
    of_length (e ∷ es) h = absurd (grind (arith, common_steps))

pub tells_nothing : (a b : Tree) → (delta a b ≡ []) ↔ ((p : Names) → differs (get a p) (get b p) ≡ false)
tells_nothing a b = (nothing_found a b, nothing_told a b)

equal_numbers : (n : ℕ) → (n == n) ≡ true
equal_numbers n = search rules

equal_bools : (b : Bool) → beq b b ≡ true
equal_bools true = refl
equal_bools false = refl

-- a test of a change between equal values fails
idle : (k n : Bool) → n ≡ true → (k && k && not n) ≡ false
idle true n h = ap not h
idle false n h = refl

pub differs_same : (x : Option Element) → differs x x ≡ false
differs_same None = refl
differs_same (Some e) = λ i. not (flag_if 0x100 (idle (is_file e.kind) (e.stamp == e.stamp) (equal_numbers e.stamp) i)
    + flag_if 0x4000 (idle (is_project e.kind) (beq e.opened e.opened) (equal_bools e.opened) i)
    + flag_if 0x8000 (ap not (equal_numbers (kind_number e.kind)) i)
    + flag_if 0x10000 (ap not (idle_syncs e.attached.syncs) i)
    + flag_if 0x20000 (ap not (idle_marks e.attached.marks) i)
    + flag_if 0x40000 (ap not (equal_numbers e.node) i)
    + flag_if 0x80000 (idle (is_project e.kind) (e.attached.desc_stamp == e.attached.desc_stamp) (equal_numbers e.attached.desc_stamp) i)
    + flag_if 0x400000 (ap not (equal_bools e.derived) i) == 0)

pub tells_no_change : (a b : Tree) → a ≡ b → delta a b ≡ []
tells_no_change a b h = nothing_told a b (λ p. ap (λ t. differs (get a p) (get t p)) (sym h) ∙ differs_same (get a p))
