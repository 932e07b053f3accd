-- What changes an element in its place keeps resources sound.
use Rattle.std.proofs.Common.{◌≡◌, ℕ, ◌+◌, ◌<◌, ◌≤◌, Bool, true, false, not, cond, List, [], refl, sym, ap, ◌∙◌, arith, inl, inr}
use Rattle.std.specs.Prelude.{Option, Some, None, IfSome, unwrap_or}
use Rattle.std.specs.Option.{option_map}
use Rattle.std.specs.FinMap.{get}
use Rattle.res_path.specs.Paths.{Names}
use Rattle.ws_elem.specs.Kinds.{is_project}
use Rattle.ws_elem.specs.declared.element.Element.{Element}
use Rattle.ws_elem.specs.declared.kind.Kind.TheVariants.{File}
use Rattle.mark_set.specs.Markers.{Marks}
use Rattle.proj_desc.specs.Canonical.{canonical_of}
use Rattle.ws_elem.proofs.Cuts.{same_at}
use Rattle.op_kind.specs.declared.refusal.OpRefusal.TheVariants.{ProjectClosed, WrongKind}
use Rattle.op_kind.specs.Resources.{Resources}
use Rattle.op_kind.specs.Places.{project_of, is_project_path, is_in_shut}
use Rattle.proj_desc.specs.FirstCause.{first_cause}
use Rattle.op_kind.specs.Refusals.{contents_causes, derived_causes, describe_causes}
use Rattle.op_kind.specs.Effects.{change_at, write, touch, derive, described, describe}
use Rattle.op_kind.specs.Problems.{command_count, is_problem_from, without_problems_from}
use Rattle.op_kind.specs.Sound.{opened, IsConsistent}
use Rattle.op_kind.specs.Stamps.{IsDrawn}
use Rattle.op_kind.proofs.PathsBelow.{one_short}
use Rattle.op_kind.proofs.Cases.{if_as, some_same, at_cond, if_there, at_some, map_if}
use Rattle.op_kind.proofs.Looks.{is_at, get-change_at, changed_at}
use Rattle.op_sound.proofs.SoundParts.{is_kept, short_kept, whole_of, whole_parts, whole_fits}
use Rattle.op_sound.proofs.SoundGrafts.{Alike, fits_as, parts_as, changed_fits, changed_parts}
use Rattle.op_sound.proofs.SoundStamps.{Same, Comes, IsOld, IsLater, Below, kept_below, old_tree, stays_tree, stays_shelf}
use Rattle.op_sound.proofs.SoundSteps.{Keeps, passed}
use Rattle.op_sound.proofs.SoundCreate.{one_name}

-- what is at p is changed, and stamps are drawn
abbrev changed_to : Resources → Names → (Element → Element) → ℕ → Resources
changed_to r p change stamps = record r { tree = change_at r.tree p change; next_stamp = stamps }

-- a change that opening doesn't meet
pub record IsBeside (change : Element → Element) : Type 0 where
  pub alike : (e : Element) → Alike e (change e)
  pub turns : (e : Element) → opened (change e) ≡ change (opened e)

pub change_keeps : (Fresh : Element → Type 0) (r : Resources) (p : Names) (change : Element → Element) (stamps : ℕ) → IsConsistent r → IsBeside change
    → is_kept (get r.tree) p ≡ false → r.next_stamp ≤ stamps
    → ((e : Element) → get r.tree p ≡ Some e → Comes Fresh r (changed_to r p change stamps) (change e))
    → ((e : Element) → Fresh e → e.kind ≡ File → r.next_stamp ≤ e.stamp) → ((e f : Element) → Fresh e → Fresh f → Same e f)
    → Keeps Fresh r (changed_to r p change stamps)
change_keeps Fresh r p change stamps x beside shown more comes late same = record {
  whole = change_at (whole_of r x) p change;
  fits = fits_as (changed_at (get (whole_of r x)) p change) (get (change_at (whole_of r x) p change)) (get-change_at (whole_of r x) p change)
      (changed_fits (get (whole_of r x)) (λ q. is_at q p) change beside.alike (whole_fits r x));
  parts = parts_as (changed_at (get r.tree) p change) (get (change_at r.tree p change)) (get r.shelf) (get r.shelf)
      (changed_at (get (whole_of r x)) p change) (get (change_at (whole_of r x) p change))
      (λ q. sym (get-change_at r.tree p change q)) (λ _. refl) (λ q. sym (get-change_at (whole_of r x) p change q))
      (changed_parts (get r.tree) (get r.shelf) (get (whole_of r x)) (λ q. is_at q p) change beside.alike beside.turns
      (λ q same. ap (is_kept (get r.tree)) (same_at q p same) ∙ shown) (whole_parts r x));
  grows = record {
    later = later;
    tree = λ q. if_as (Comes Fresh r after) (get (change_at r.tree p change) q) (changed_at (get r.tree) p change q) (get-change_at r.tree p change q)
        (at_cond (λ z. IfSome z (Comes Fresh r after)) (is_at q p) (option_map change (get r.tree q)) (get r.tree q)
        (λ at. map_if change (Comes Fresh r after) (get r.tree q)
        (if_there (λ e. Comes Fresh r after (change e)) (get r.tree q) (λ e h. comes e (ap (get r.tree) (sym (same_at q p at)) ∙ h))))
        (λ _. stays_tree Fresh r after later x.tree_known q));
    shelf = stays_shelf Fresh r after later x.shelf_known;
    late = late;
    same = same;
  };
}
  where
    after : Resources
    after = changed_to r p change stamps

    later : IsLater r after
    later = (omega arith, more, omega arith, omega arith)

-- ---- contents

-- what is at p, so changed
abbrev pub IsChanged : Resources → Names → (Element → Element) → Element → Type 0
IsChanged r p change e = option_map change (get r.tree p) ≡ Some e

pub all_changed : (A : Element → Type 0) (change : Element → Element) → ((e : Element) → A (change e)) → (x : Option Element) (e : Element) → option_map change x ≡ Some e
    → A e
all_changed A change h x e is = at_some A (option_map change x) e is (map_if change A x (if_there (λ g. A (change g)) x (λ g _. h g)))

-- contents or a stamp that are drawn anew
abbrev pub rewrite_with : ℕ → (List ℕ → List ℕ) → Element → Element
rewrite_with stamp bytes e = record e { stamp = stamp; bytes = bytes e.bytes }

pub contents_keeps : (r : Resources) (p : Names) (bytes : List ℕ → List ℕ) → IsConsistent r → first_cause (contents_causes r p) ≡ None
    → Keeps (IsChanged r p (rewrite_with r.next_stamp bytes)) r (changed_to r p (rewrite_with r.next_stamp bytes) (r.next_stamp + 1))
contents_keeps r p bytes x h = change_keeps (IsChanged r p change) r p change (r.next_stamp + 1) x record { alike = λ e. record { kind = refl; node = refl; opened = refl }; turns = turns }
    (passed (is_in_shut r.tree p) (ProjectClosed (project_of p)) _ h).0 (omega arith)
    (λ e is. record {
      drawn = later e (at_some (IsDrawn r) (get r.tree p) e is (x.tree_known.drawn p));
      whence = inr (ap (option_map change) is);
    })
    (λ e is _. all_changed (λ g. r.next_stamp ≤ g.stamp) change (λ g. omega arith) (get r.tree p) e is)
    (λ e f is also _ _ _. ap (λ g. g.bytes) (some_same e f (sym is ∙ also)))
  where
    change : Element → Element
    change = rewrite_with r.next_stamp bytes

    turns : (e : Element) → opened (change e) ≡ change (opened e)
    turns e = elim (is_project e.kind) as (λ b.
        cond b (record (rewrite_with r.next_stamp bytes e) { opened = true }) (rewrite_with r.next_stamp bytes e)
        ≡ rewrite_with r.next_stamp bytes (cond b (record e { opened = true }) e)) [ true ↦ refl | false ↦ refl ]

    later : (e : Element) → IsDrawn r e → IsDrawn (changed_to r p change (r.next_stamp + 1)) (rewrite_with r.next_stamp bytes e)
    later e d = record {
      node = d.node;
      stamp = omega arith;
      desc_stamp = let less : e.attached.desc_stamp < r.next_stamp = d.desc_stamp in omega arith;
      marks = d.marks;
      syncs = d.syncs;
    }

pub write_keeps : (r : Resources) (p : Names) (bytes : List ℕ) → IsConsistent r → first_cause (contents_causes r p) ≡ None
    → Keeps (IsChanged r p (rewrite_with r.next_stamp (λ _. bytes))) r (write r p bytes)
write_keeps r p bytes x h = contents_keeps r p (λ _. bytes) x h

pub touch_keeps : (r : Resources) (p : Names) → IsConsistent r → first_cause (contents_causes r p) ≡ None
    → Keeps (IsChanged r p (rewrite_with r.next_stamp (λ b. b))) r (touch r p)
touch_keeps r p x h = contents_keeps r p (λ b. b) x h

-- ---- what isn't contents

pub derive_keeps : (r : Resources) (p : Names) (on : Bool) → IsConsistent r → first_cause (derived_causes r.tree p) ≡ None → Keeps (λ _. ⊥) r (derive r p on)
derive_keeps r p on x h = change_keeps (λ _. ⊥) r p (λ e. record e { derived = on }) r.next_stamp x record { alike = λ e. record { kind = refl; node = refl; opened = refl }; turns = turns }
    (passed (is_in_shut r.tree p) (ProjectClosed (project_of p)) _ h).0 (omega arith)
    (λ e is.
    let d : IsDrawn r e = at_some (IsDrawn r) (get r.tree p) e is (x.tree_known.drawn p) in
    let old : IsOld r e = old_tree r p e is in
    record {
      drawn = record { node = d.node; stamp = d.stamp; desc_stamp = d.desc_stamp; marks = d.marks; syncs = d.syncs };
      whence = inl (record { from = old.from; stood = old.stood; kind = old.kind; stamp = old.stamp; bytes = old.bytes });
    })
    (λ _ none. absurd none) (λ _ _ none. absurd none)
  where
    turns : (e : Element) → opened (record e { derived = on }) ≡ record (opened e) { derived = on }
    turns e = elim (is_project e.kind) as (λ b.
        cond b (record e { derived = on; opened = true }) (record e { derived = on })
        ≡ record (cond b (record e { opened = true }) e) { derived = on }) [ true ↦ refl | false ↦ refl ]

pub describe_keeps : (r : Resources) (p : Names) (text : List ℕ) → IsConsistent r → first_cause (describe_causes r p text) ≡ None → Keeps (λ _. ⊥) r (describe r p text)
describe_keeps r p text x h = change_keeps (λ _. ⊥) r p (described r.next_stamp text) (r.next_stamp + 1) x
    record { alike = λ e. record { kind = refl; node = refl; opened = refl }; turns = turns (unwrap_or (canonical_of text) []) (command_count text) }
    (short_kept (get r.tree) p (one_short p (one_name p (passed (not (is_project_path p)) (WrongKind p) _ h).0))) (omega arith)
    (λ e is.
    let d : IsDrawn r e = at_some (IsDrawn r) (get r.tree p) e is (x.tree_known.drawn p) in
    let old : IsOld r e = old_tree r p e is in
    let less : e.stamp < r.next_stamp = d.stamp in
    record {
      drawn = record { node = d.node; stamp = omega arith; desc_stamp = omega arith; marks = left e.attached.marks d.marks; syncs = d.syncs };
      whence = inl (record { from = old.from; stood = old.stood; kind = old.kind; stamp = old.stamp; bytes = old.bytes });
    })
    (λ _ none. absurd none) (λ _ _ none. absurd none)
  where
    left : (marks : Marks) → Below r.next_marker marks → Below r.next_marker (without_problems_from (command_count text) marks)
    left marks = kept_below r.next_marker marks (λ id. not (is_problem_from (command_count text) (get marks id)))

    so : List ℕ → ℕ → Element → Element
    so d count e = record e { attached = record e.attached { desc = d; desc_stamp = r.next_stamp; marks = without_problems_from count e.attached.marks } }

    turns : (d : List ℕ) (count : ℕ) (e : Element) → opened (so d count e) ≡ so d count (opened e)
    turns d count e = elim (is_project e.kind) as (λ b.
        cond b (record (so d count e) { opened = true }) (so d count e)
        ≡ so d count (cond b (record e { opened = true }) e)) [ true ↦ refl | false ↦ refl ]
