-- The rows of two trees tell where nodes were and went as the trees do.
use Rattle.std.proofs.Common.{◌≡◌, ℕ, ◌+◌, Bool, true, false, cond, not, [], refl, sym, ap, ◌∙◌, arith}
use Rattle.std.specs.Prelude.{Option, Some, None, ◌==◌}
use Rattle.std.specs.FinMap.{empty, get, entries, get-entries}
use Rattle.std.specs.Option.{option_map_or}
use Rattle.std.proofs.lemmas.Bool.Decides.{nat_tests}
use Rattle.res_path.specs.Paths.{Names}
use Rattle.mark_set.specs.Deltas.{marker_deltas}
use Rattle.mark_set.specs.Markers.{Marks, same_marks, same_marks-Decides}
use Rattle.mark_set.proofs.Changes.{no_deltas}
use Rattle.sync_set.specs.Syncs.{Syncs, same_syncs, same_syncs-Decides}
use Rattle.ws_elem.specs.declared.attached.Attachments.{Attachments}
use Rattle.ws_elem.specs.declared.element.Element.{Element}
use Rattle.ws_elem.specs.Attached.{nothing_attached}
use Rattle.ws_elem.specs.Trees.{Tree}
use Rattle.delta_kind.specs.declared.row.Turn.TheVariants.{Lost, Gained}
use Rattle.delta_kind.specs.Flags.{has_content, has_open, has_type, has_sync, has_markers, has_replaced, has_description, has_derived_changed, marks_of, syncs_of, flag_if, flags_of, differs}
use Rattle.delta_kind.specs.Rows.{lost, is_number}
use Rattle.delta_kind.proofs.Turns.{place_of}
use Rattle.delta_kind.specs.Rows.{Rows, Sides, row_paths, turned, place_in}
use Rattle.delta_kind.specs.Inside.Passes.{untouched}
use Rattle.delta_kind.proofs.Merged.{RowsOf}
use Rattle.delta_kind.proofs.Rising.{Rises, keys_rise}
use Rattle.delta_kind.proofs.Firsts.{passes, same_first}

-- ---- where a path doesn't differ, its node stays

pub no_flags : (a b : Element) → differs (Some a) (Some b) ≡ false → flags_of (Some a) (Some b) ≡ 0
no_flags a b h = zero (flags_of (Some a) (Some b)) h
  where
    zero : (n : ℕ) → not (n == 0) ≡ false → n ≡ 0
    zero n h = grind (arith, nat_tests)

same_node : (a b : Element) → differs (Some a) (Some b) ≡ false → (a.node == b.node) ≡ true
same_node a b h = by (flag_if 0x100 (has_content (Some a) (Some b))) (flag_if 0x4000 (has_open (Some a) (Some b))) (flag_if 0x8000 (has_type (Some a) (Some b)))
    (flag_if 0x10000 (has_sync (Some a) (Some b))) (flag_if 0x20000 (has_markers (Some a) (Some b))) (flag_if 0x80000 (has_description (Some a) (Some b))) (flag_if 0x400000 (has_derived_changed (Some a) (Some b))) (a.node == b.node) (no_flags a b h)
  where
    by : (c o t y m d v : ℕ) (s : Bool) → c + o + t + y + m + flag_if 0x40000 (not s) + d + v ≡ 0 → s ≡ true
    by c o t y m d v true h = refl
    by c o t y m d v false h = absurd (omega arith)

-- where a path doesn't differ, its markers stay
pub same_markers : (a b : Element) → differs (Some a) (Some b) ≡ false → a.attached.marks ≡ b.attached.marks
same_markers a b h = (same_marks-Decides a.attached.marks b.attached.marks).0 (by (flag_if 0x100 (has_content (Some a) (Some b))) (flag_if 0x4000 (has_open (Some a) (Some b)))
    (flag_if 0x8000 (has_type (Some a) (Some b))) (flag_if 0x10000 (has_sync (Some a) (Some b))) (flag_if 0x40000 (has_replaced (Some a) (Some b)))
    (flag_if 0x80000 (has_description (Some a) (Some b))) (flag_if 0x400000 (has_derived_changed (Some a) (Some b))) (same_marks a.attached.marks b.attached.marks) (no_flags a b h))
  where
    by : (c o t y r d v : ℕ) (s : Bool) → c + o + t + y + flag_if 0x20000 (not s) + r + d + v ≡ 0 → s ≡ true
    by c o t y r d v true h = refl
    by c o t y r d v false h = absurd (omega arith)

-- what isn't there has no markers and no bytes
pub idle_syncs : (s : Syncs) → same_syncs s s ≡ true
idle_syncs s = (same_syncs-Decides s s).1 refl

pub idle_marks : (m : Marks) → same_marks m m ≡ true
idle_marks m = (same_marks-Decides m m).1 refl

pub nothing_flagged : flags_of None None ≡ 0
nothing_flagged = λ i. 0 + flag_if 0x10000 (not (idle_syncs empty i)) + flag_if 0x20000 (not (idle_marks empty i)) + 0 + 0 + 0

pub no_marker_deltas : (m : Marks) → marker_deltas m m ≡ []
no_marker_deltas m = (no_deltas m m).1 refl

pub equal_marks : (x y : Option Element) → not (has_markers x y) ≡ true → marker_deltas (marks_of x) (marks_of y) ≡ []
equal_marks x y h = (no_deltas (marks_of x) (marks_of y)).1 ((same_marks-Decides (marks_of x) (marks_of y)).0 (by (same_marks (marks_of x) (marks_of y)) h))
  where
    by : (s : Bool) → not (not s) ≡ true → s ≡ true
    by true h = refl
    by false h = h

-- what is attached to an element, nothing to one that isn't there; the same attached, the same bytes and markers
abbrev attached_to : Option Element → Attachments
attached_to x = option_map_or (λ e. e.attached) x nothing_attached

pub same_syncs_kept : (x y : Option Element) → attached_to x ≡ attached_to y → false ≡ has_sync x y
same_syncs_kept x y h = sym (ap not ((same_syncs-Decides (syncs_of x) (syncs_of y)).1 (by x ∙ ap (λ a. a.syncs) h ∙ sym (by y))))
  where
    by : (x : Option Element) → syncs_of x ≡ (attached_to x).syncs
    by None = refl
    by (Some e) = refl

pub same_marks_kept : (x y : Option Element) → attached_to x ≡ attached_to y → false ≡ has_markers x y
same_marks_kept x y h = sym (ap not ((same_marks-Decides (marks_of x) (marks_of y)).1 (by x ∙ ap (λ a. a.marks) h ∙ sym (by y))))
  where
    by : (x : Option Element) → marks_of x ≡ (attached_to x).marks
    by None = refl
    by (Some e) = refl

pub untouched_is : (p : Names) → untouched p ≡ record { path = p; kind = 4; flags = 0; moved_from = None; moved_to = None; markers = [] }
untouched_is p = λ i. record { path = p; kind = 4; flags = nothing_flagged i + 0; moved_from = None; moved_to = None; markers = no_marker_deltas empty i }

same_back : (m n : ℕ) → (m == n) ≡ true → (n == m) ≡ true
same_back m n h = grind (arith, nat_tests)

pub none_lost : (x y : Option Element) → differs x y ≡ false → lost x y ≡ None
none_lost None y h = refl
none_lost (Some a) None h = cc
none_lost (Some a) (Some b) h = ap (λ s. cond s None (Some a.node)) (same_node a b h)

pub none_gained : (x y : Option Element) → differs x y ≡ false → lost y x ≡ None
none_gained x None h = refl
none_gained None (Some b) h = cc
none_gained (Some a) (Some b) h = ap (λ s. cond s None (Some b.node)) (same_back a.node b.node (same_node a b h))

-- ---- the first path that loses a node, and the first that gains it

module _ (a b : Tree) (rows : Rows) (h : RowsOf a b rows) (up : Rises None (row_paths rows)) (n : ℕ) where
  pub losers_are : place_in Lost rows n ≡ place_of a b n
  losers_are = same_first (λ row. is_number n (turned Lost row.1)) (λ e. is_number n (lost (Some e.1) (get b e.0))) rows (entries a) up (keys_rise a) (λ p.
      ap (passes (λ row. is_number n (turned Lost row.1)) p) (h p) ∙ by p (get a p) (differs (get a p) (get b p)) refl
      ∙ ap (passes (λ e. is_number n (lost (Some e.1) (get b e.0))) p) (get-entries a p))
    where
      by : (p : Names) (x : Option Element) (c : Bool) → differs x (get b p) ≡ c
          → passes (λ (row : Names × Sides). is_number n (turned Lost row.1)) p (cond c (Some (x, get b p)) None) ≡ passes (λ (e : Names × Element). is_number n (lost (Some e.1) (get b e.0))) p x
      by p None true e = refl
      by p None false e = refl
      by p (Some x) true e = refl
      by p (Some x) false e = sym (ap (is_number n) (none_lost (Some x) (get b p) e))

  pub gainers_are : place_in Gained rows n ≡ place_of b a n
  gainers_are = same_first (λ row. is_number n (turned Gained row.1)) (λ e. is_number n (lost (Some e.1) (get a e.0))) rows (entries b) up (keys_rise b) (λ p.
      ap (passes (λ row. is_number n (turned Gained row.1)) p) (h p) ∙ by p (get b p) (differs (get a p) (get b p)) refl
      ∙ ap (passes (λ e. is_number n (lost (Some e.1) (get a e.0))) p) (get-entries b p))
    where
      by : (p : Names) (y : Option Element) (c : Bool) → differs (get a p) y ≡ c
          → passes (λ (row : Names × Sides). is_number n (turned Gained row.1)) p (cond c (Some (get a p, y)) None) ≡ passes (λ (e : Names × Element). is_number n (lost (Some e.1) (get a e.0))) p y
      by p None true e = refl
      by p None false e = refl
      by p (Some y) true e = refl
      by p (Some y) false e = sym (ap (is_number n) (none_gained (get a p) (Some y) e))
