-- What changes markers and synchronisation bytes alone keeps resources sound.
use Rattle.std.proofs.Common.{◌≡◌, ℕ, ◌+◌, ◌<◌, ◌≤◌, nat_eq, Bool, true, false, not, cond, ◌&&◌, List, [], ◌∷◌, ◌++◌, length, refl, sym, ap, ◌∙◌, subst, arith, inl, length-append}
use Rattle.std.specs.Prelude.{Option, Some, None, IfSome, is_some, nat_lt, unwrap_or}
use Rattle.std.specs.List.{position_or_len}
use Rattle.std.specs.Str.{bytes_eq}
use Rattle.std.specs.Option.{option_map}
use Rattle.std.specs.Ordering.{nat_cmp}
use Rattle.std.specs.FinMap.{FinMap, get, insert, remove, retain_keys, contains_key}
use Rattle.std.proofs.lemmas.Bool.{eqb-true}
use Rattle.std.proofs.lemmas.Bool.Decides.{nat_tests}
use Rattle.mark_set.specs.declared.marker.Marker.{Marker}
use Rattle.mark_set.specs.declared.value.RawValue.{RawValue}
use Rattle.mark_set.specs.Markers.{Marks, new_marker, has_type, with_attribute}
use Rattle.mark_set.proofs.Ids.{get_insert, get_remove}
use Rattle.sync_set.specs.Syncs.{Syncs, with_bytes}
use Rattle.res_path.specs.Paths.{Names}
use Rattle.ws_elem.specs.Depths.{is_within}
use Rattle.ws_elem.specs.Kinds.{is_project}
use Rattle.ws_elem.specs.Trees.{Tree}
use Rattle.ws_elem.specs.declared.depth.Depth.{Depth}
use Rattle.ws_elem.specs.declared.element.Element.{Element}
use Rattle.op_kind.specs.declared.refusal.OpRefusal.TheVariants.{WrongKind, ProjectClosed, NotFound, PartnerUnknown}
use Rattle.op_kind.specs.Resources.{Resources}
use Rattle.op_kind.specs.Partners.{Partners, is_partner, number_of}
use Rattle.op_kind.specs.Places.{project_of, is_root_path, is_shut}
use Rattle.op_kind.specs.Marking.{with_marker, put_marker, with_attribute_of}
use Rattle.proj_desc.specs.FirstCause.{first_cause}
use Rattle.op_kind.specs.Refusals.{sync_causes}
use Rattle.op_kind.specs.Effects.{mark, set_attribute, unmark, clear_marks, register, sync, flush}
use Rattle.op_kind.specs.Sound.{opened, IsConsistent}
use Rattle.op_kind.specs.Stamps.{IsDrawn}
use Rattle.op_kind.proofs.ChangedWhere.{change_where, get-change_where}
use Rattle.op_kind.proofs.Cases.{if_as, at_cond, if_there, at_some, map_if}
use Rattle.op_kind.proofs.Looks.{is_at, get-change_at}
use Rattle.op_sound.proofs.SoundParts.{is_kept, split_true, whole_of, whole_parts, whole_fits}
use Rattle.op_sound.proofs.SoundGrafts.{Alike, changed_where, fits_as, parts_as, changed_fits, changed_parts}
use Rattle.op_sound.proofs.SoundStamps.{Comes, IsOld, IsLater, Below, below_more, kept_below, old_tree, stays_tree, stays_shelf}
use Rattle.op_sound.proofs.SoundSteps.{Keeps, passed, is_there}
use Rattle.op_sound.proofs.SoundOpen.{stays}
use Rattle.op_kind.proofs.PathsBelow.{never}

-- an element with its markers and bytes so changed
abbrev note : (Marks → Marks) → (Syncs → Syncs) → Element → Element
note m s e = record e { attached = record e.attached { marks = m e.attached.marks; syncs = s e.attached.syncs } }

pub alike : (m : Marks → Marks) (s : Syncs → Syncs) (e : Element) → Alike e (note m s e)
alike m s e = record { kind = refl; node = refl; opened = refl }

pub turns : (m : Marks → Marks) (s : Syncs → Syncs) (e : Element) → opened (note m s e) ≡ note m s (opened e)
turns m s e = elim (is_project e.kind) as (λ b.
    cond b (record (note m s e) { opened = true }) (note m s e)
    ≡ note m s (cond b (record e { opened = true }) e)) [ true ↦ refl | false ↦ refl ]

-- members of closed projects aren't in the tree
pub and_shown : (b k : Bool) → (b && not k) ≡ true → k ≡ false
and_shown true true h = cc
and_shown true false h = refl
and_shown false k h = cc

pub same_look : (change : Element → Element) (b k : Bool) (x : Option Element) → (k ≡ true → x ≡ None) → cond (b && not k) (option_map change x) x ≡ cond b (option_map change x) x
same_look change true true x h = h refl ∙ sym (ap (option_map change) (h refl))
same_look change true false x h = refl
same_look change false k x h = refl

-- ---- ids

pub put_below : {X : Type 0} (n : ℕ) (m : FinMap nat_cmp X) (k : ℕ) (x : X) → k < n → Below n m → Below n (insert m k x)
put_below n m k x less all id = subst (λ y. IfSome y (λ _. id < n)) (sym (get_insert m k x id))
    (at_cond (λ y. IfSome y (λ _. id < n)) (nat_eq id k) (Some x) (get m id) (λ same. let is : id ≡ k = eqb-true id k same in omega arith) (λ _. all id))

pub taken_below : {X : Type 0} (n : ℕ) (m : FinMap nat_cmp X) (k : ℕ) → Below n m → Below n (remove m k)
taken_below n m k all id = subst (λ y. IfSome y (λ _. id < n)) (sym (get_remove m k id))
    (at_cond (λ y. IfSome y (λ _. id < n)) (nat_eq id k) None (get m id) (λ _. tt) (λ _. all id))

pub more_below : {X : Type 0} (low high : ℕ) (m : FinMap nat_cmp X) → low ≤ high → Below low m → Below high m
more_below low high m more all id = below_more (get m id) id low high more (all id)

-- an attribute is set where a marker is
pub attribute_below : (n : ℕ) (marks : Marks) (id : ℕ) (name : List ℕ) (value : Option RawValue) → Below n marks → Below n (with_attribute_of marks id name value)
attribute_below n marks id name value all = by (get marks id) refl
  where
    by : (x : Option Marker) → get marks id ≡ x → Below n (put_marker marks id (option_map (λ marker. with_attribute marker name value) x))
    by None is = all
    by (Some marker) is = put_below n marks id (with_attribute marker name value) (subst (λ y. IfSome y (λ _. id < n)) is (all id)) all

pub bytes_below : (n : ℕ) (syncs : Syncs) (number : ℕ) (bytes : Option (List ℕ)) → number < n → Below n syncs → Below n (with_bytes syncs number bytes)
bytes_below n syncs number None less all = taken_below n syncs number all
bytes_below n syncs number (Some b) less all = put_below n syncs number b less all

-- a registered partner's number is below their count
pub number_below : (partners : Partners) (name : List ℕ) → is_partner partners name ≡ true → number_of partners name < length partners
number_below partners name h = by (nat_lt place (length partners)) refl h
  where
    place : ℕ
    place = position_or_len (λ other. bytes_eq other name) partners

    by : (b : Bool) → nat_lt place (length partners) ≡ b → is_some (cond b (Some place) None) ≡ true → unwrap_or (cond b (Some place) None) 0 < length partners
    by true i g = grind (arith, nat_tests)
    by false i g = absurd (never (sym g))

-- ---- one change

-- what is at some paths is changed, and ids are drawn
pub note_keeps : (r : Resources) (tree : Tree) (next : ℕ) (test : Names → Bool) (m : Marks → Marks) (s : Syncs → Syncs) → IsConsistent r → r.next_marker ≤ next
    → ((q : Names) → get tree q ≡ changed_where (get r.tree) test (note m s) q)
    → ((marks : Marks) → Below r.next_marker marks → Below next (m marks)) → ((syncs : Syncs) → Below (length r.partners) syncs → Below (length r.partners) (s syncs))
    → Keeps (λ _. ⊥) r (record r { tree = tree; next_marker = next })
note_keeps r tree next test m s x more is in_marks in_syncs = record {
  whole = change_where (whole_of r x) shown (note m s);
  fits = fits_as (changed_where (get (whole_of r x)) shown (note m s)) (get (change_where (whole_of r x) shown (note m s))) (get-change_where (whole_of r x) shown (note m s))
      (changed_fits (get (whole_of r x)) shown (note m s) (alike m s) (whole_fits r x));
  parts = parts_as (changed_where (get r.tree) shown (note m s)) (get tree) (get r.shelf) (get r.shelf)
      (changed_where (get (whole_of r x)) shown (note m s)) (get (change_where (whole_of r x) shown (note m s)))
      (λ q. same_look (note m s) (test q) (is_kept (get r.tree) q) (get r.tree q) (away q) ∙ sym (is q)) (λ _. refl) (λ q. sym (get-change_where (whole_of r x) shown (note m s) q))
      (changed_parts (get r.tree) (get r.shelf) (get (whole_of r x)) shown (note m s) (alike m s) (turns m s) (λ q. and_shown (test q) (is_kept (get r.tree) q)) (whole_parts r x));
  grows = record {
    later = later;
    tree = λ q. if_as (Comes (λ _. ⊥) r after) (get tree q) (changed_where (get r.tree) test (note m s) q) (is q)
        (at_cond (λ z. IfSome z (Comes (λ _. ⊥) r after)) (test q) (option_map (note m s) (get r.tree q)) (get r.tree q)
        (λ _. map_if (note m s) (Comes (λ _. ⊥) r after) (get r.tree q) (if_there (λ e. Comes (λ _. ⊥) r after (note m s e)) (get r.tree q) (noted q)))
        (λ _. stays_tree (λ _. ⊥) r after later x.tree_known q));
    shelf = stays_shelf (λ _. ⊥) r after later x.shelf_known;
    late = λ _ none. absurd none;
    same = λ _ _ none. absurd none;
  };
}
  where
    after : Resources
    after = record r { tree = tree; next_marker = next }

    later : IsLater r after
    later = (omega arith, omega arith, more, omega arith)

    shown : Names → Bool
    shown q = test q && not (is_kept (get r.tree) q)

    away : (q : Names) → is_kept (get r.tree) q ≡ true → get r.tree q ≡ None
    away q h = (split_true (is_kept (get r.tree) q) (get r.tree q) (get r.shelf q) (get (whole_of r x) q) h (whole_parts r x q)).0

    noted : (q : Names) (e : Element) → get r.tree q ≡ Some e → Comes (λ _. ⊥) r after (note m s e)
    noted q e h =
        let d : IsDrawn r e = at_some (IsDrawn r) (get r.tree q) e h (x.tree_known.drawn q) in
        let old : IsOld r e = old_tree r q e h in
        record {
          drawn = record { node = d.node; stamp = d.stamp; desc_stamp = d.desc_stamp; marks = in_marks e.attached.marks d.marks; syncs = in_syncs e.attached.syncs d.syncs };
          whence = inl record { from = old.from; stood = old.stood; kind = old.kind; stamp = old.stamp; bytes = old.bytes };
        }

-- ---- markers

pub mark_keeps : (r : Resources) (p : Names) (mark_type : List ℕ) (attributes : List (List ℕ × RawValue)) → IsConsistent r → Keeps (λ _. ⊥) r (mark r p mark_type attributes)
mark_keeps r p mark_type attributes x = note_keeps r (mark r p mark_type attributes).tree (r.next_marker + 1) (λ q. is_at q p) (λ marks. with_marker marks r.next_marker mark_type attributes) (λ syncs. syncs)
    x (omega arith) (get-change_at r.tree p (note (λ marks. with_marker marks r.next_marker mark_type attributes) (λ syncs. syncs)))
    (λ marks all. put_below (r.next_marker + 1) marks r.next_marker (new_marker r.next_marker mark_type attributes) (omega arith) (more_below r.next_marker (r.next_marker + 1) marks (omega arith) all))
    (λ _ all. all)

pub attribute_keeps : (r : Resources) (p : Names) (id : ℕ) (name : List ℕ) (value : Option RawValue) → IsConsistent r → Keeps (λ _. ⊥) r (set_attribute r p id name value)
attribute_keeps r p id name value x = note_keeps r (set_attribute r p id name value).tree r.next_marker (λ q. is_at q p) (λ marks. with_attribute_of marks id name value) (λ syncs. syncs)
    x (omega arith) (get-change_at r.tree p (note (λ marks. with_attribute_of marks id name value) (λ syncs. syncs)))
    (λ marks all. attribute_below r.next_marker marks id name value all) (λ _ all. all)

pub unmark_keeps : (r : Resources) (p : Names) (id : ℕ) → IsConsistent r → Keeps (λ _. ⊥) r (unmark r p id)
unmark_keeps r p id x = note_keeps r (unmark r p id).tree r.next_marker (λ q. is_at q p) (λ marks. remove marks id) (λ syncs. syncs)
    x (omega arith) (get-change_at r.tree p (note (λ marks. remove marks id) (λ syncs. syncs))) (λ marks all. taken_below r.next_marker marks id all) (λ _ all. all)

pub clear_keeps : (r : Resources) (p : Names) (mark_type : List ℕ) (depth : Depth) → IsConsistent r → Keeps (λ _. ⊥) r (clear_marks r p mark_type depth)
clear_keeps r p mark_type depth x = note_keeps r (clear_marks r p mark_type depth).tree r.next_marker (is_within depth p) cleared (λ syncs. syncs)
    x (omega arith) (get-change_where r.tree (is_within depth p) (note cleared (λ syncs. syncs)))
    (λ marks all. kept_below r.next_marker marks (λ id. not (has_type mark_type (get marks id))) all) (λ _ all. all)
  where
    cleared : Marks → Marks
    cleared marks = retain_keys marks (λ id. not (has_type mark_type (get marks id)))

-- ---- synchronisation bytes

pub register_keeps : (r : Resources) (name : List ℕ) → IsConsistent r → Keeps (λ _. ⊥) r (register r name)
register_keeps r name x = at_cond (Keeps (λ _. ⊥) r) (is_partner r.partners name) r (record r { partners = r.partners ++ name ∷ [] })
    (λ _. stays r r.partners x (omega arith))
    (λ _. let more : length (r.partners ++ name ∷ []) ≡ length r.partners + 1 = length-append r.partners (name ∷ []) in stays r (r.partners ++ name ∷ []) x (omega arith))

pub synced_number : (r : Resources) (p : Names) (name : List ℕ) → first_cause (sync_causes r p name) ≡ None → number_of r.partners name < length r.partners
synced_number r p name h =
    let a = passed (is_root_path p) (WrongKind p) _ h in
    let b = passed (is_shut r.tree p) (ProjectClosed (project_of p)) _ a.1 in
    let c = passed (not (contains_key r.tree p)) (NotFound p) _ b.1 in
    let d = passed (not (is_partner r.partners name)) PartnerUnknown None c.1 in
    number_below r.partners name (is_there (is_partner r.partners name) d.0)

pub sync_keeps : (r : Resources) (p : Names) (name : List ℕ) (bytes : Option (List ℕ)) → IsConsistent r → first_cause (sync_causes r p name) ≡ None → Keeps (λ _. ⊥) r (sync r p name bytes)
sync_keeps r p name bytes x h = note_keeps r (sync r p name bytes).tree r.next_marker (λ q. is_at q p) (λ marks. marks) (λ syncs. with_bytes syncs (number_of r.partners name) bytes)
    x (omega arith) (get-change_at r.tree p (note (λ marks. marks) (λ syncs. with_bytes syncs (number_of r.partners name) bytes)))
    (λ _ all. all) (λ syncs all. bytes_below (length r.partners) syncs (number_of r.partners name) bytes (synced_number r p name h) all)

pub flush_keeps : (r : Resources) (p : Names) (name : List ℕ) (depth : Depth) → IsConsistent r → Keeps (λ _. ⊥) r (flush r p name depth)
flush_keeps r p name depth x = note_keeps r (flush r p name depth).tree r.next_marker (is_within depth p) (λ marks. marks) (λ syncs. remove syncs (number_of r.partners name))
    x (omega arith) (get-change_where r.tree (is_within depth p) (note (λ marks. marks) (λ syncs. remove syncs (number_of r.partners name))))
    (λ _ all. all) (λ syncs all. taken_below (length r.partners) syncs (number_of r.partners name) all)
