-- Opening and closing a project keeps resources sound.
use Rattle.std.proofs.Common.{◌≡◌, ◌≢◌, ◌↔◌, ◌≤◌, Bool, true, false, not, cond, ◌&&◌, length, refl, sym, ap, ◌∙◌, subst, arith, ◌⊎◌, inl, inr}
use Rattle.std.specs.Prelude.{Option, Some, None, IfSome, is_some}
use Rattle.std.specs.Option.{option_map, option_or}
use Rattle.std.specs.FinMap.{get, contains_key}
use Rattle.res_path.specs.Paths.{Names, is_prefix}
use Rattle.ws_elem.specs.Kinds.{is_project}
use Rattle.ws_elem.specs.Trees.{Tree}
use Rattle.ws_elem.specs.declared.element.Element.{Element}
use Rattle.ws_elem.specs.declared.kind.Kind.TheVariants.{Project}
use Rattle.ws_elem.proofs.Cuts.{same_at}
use Rattle.op_kind.specs.declared.refusal.OpRefusal.TheVariants.{NotFound, WrongKind}
use Rattle.op_kind.specs.Partners.{Partners}
use Rattle.op_kind.specs.Resources.{Resources}
use Rattle.op_kind.specs.Places.{project_of, is_project_path, is_member_path, has_closed, is_shut}
use Rattle.op_kind.specs.Members.{is_below, members, without_members, put_all}
use Rattle.proj_desc.specs.FirstCause.{first_cause}
use Rattle.op_kind.specs.Refusals.{project_causes}
use Rattle.op_kind.specs.Effects.{set_open, open_project, close_project}
use Rattle.op_kind.specs.Sound.{opened, IsConsistent}
use Rattle.op_kind.proofs.PathsBelow.{one_short, never, both, not_true, prefix_itself, prefix_turned, in_project, project_length, project_itself}
use Rattle.op_kind.proofs.Cases.{if_as, at_cond, cond_true, cond_false, if_map, if_there, map_if, or_none}
use Rattle.op_kind.proofs.Looks.{Look, is_at, at_itself, at_other, get-change_at, changed_at, get-put_all, last_is, find-members, sorted-members, get-without_members}
use Rattle.op_sound.proofs.SoundParts.{IsOpen, project_true, open_not_closed, Fits, Parts, Split, is_kept, short_kept, open_kept, member_below, member_kept, short_path, split_true, split_false, open_split, kept_split, long_path, whole_of, whole_fits, whole_parts}
use Rattle.op_sound.proofs.SoundGrafts.{opened_all, parts_as}
use Rattle.op_sound.proofs.SoundStamps.{Comes, IsOld, IsLater, still, stays_tree, stays_shelf}
use Rattle.op_sound.proofs.SoundSteps.{Keeps, passed, is_there, is_away}
use Rattle.op_sound.proofs.SoundCreate.{one_name}

-- ---- what is below a path

pub below_prefix : (p q : Names) → is_below p q ≡ true → (is_prefix p q ≡ true) × (q ≢ p)
below_prefix p q h =
    let parts = both (is_prefix p q) (not (is_prefix q p)) h in
    (parts.0, λ same. never (sym (ap (λ z. is_prefix z p) same ∙ prefix_itself p) ∙ is_away (is_prefix q p) parts.1))

pub is_below_of : (p q : Names) → is_prefix p q ≡ true → q ≢ p → is_below p q ≡ true
is_below_of p q h other = ap (λ b. b && not (is_prefix q p)) h ∙ ap not (not_true (is_prefix q p) (λ g. other (prefix_turned q p g h)))

pub below_itself : (p : Names) → is_below p p ≡ false
below_itself p = not_true (is_below p p) (λ h. (below_prefix p p h).1 refl)

-- ---- a project that is opened or closed, and its members that change sides

abbrev set_to : Bool → Element → Element
set_to on e = record e { opened = on }

-- the tree: what g has below p, and elsewhere what it had, p's project open or not
abbrev sided : Look → Look → Names → Bool → Look
sided a g p on q = cond (is_below p q) (g q) (changed_at a p (set_to on) q)

-- the shelf: what h has below p, and elsewhere what it had
abbrev beside : Look → Look → Names → Look
beside s h p q = cond (is_below p q) (h q) (s q)

pub again : (on : Bool) (e : Element) → e.kind ≡ Project → opened (set_to on e) ≡ opened e
again on e k =
    cond_true (is_project e.kind) (record e { opened = true }) (set_to on e) (project_true e.kind k)
    ∙ sym (cond_true (is_project e.kind) (record e { opened = true }) e (project_true e.kind k))

pub all_again : (on : Bool) (x : Option Element) → IfSome x (λ e. e.kind ≡ Project) → option_map opened (option_map (set_to on) x) ≡ option_map opened x
all_again on None k = refl
all_again on (Some e) k = ap (λ z. Some z) (again on e k)

pub sided_split : (c m b d : Bool) (x y s g h z : Option Element) → (c ≡ true → Split d g h z)
    → (c ≡ false → m ≡ true → (d ≡ false) × (s ≡ None) × (option_map opened y ≡ z)) → (c ≡ false → m ≡ false → d ≡ b) → Split b x s z
    → Split d (cond c g (cond m y x)) (cond c h s) z
sided_split true m b d x y s g h z on at off was = on refl
sided_split false true b d x y s g h z on at off was = let here = at refl refl in open_split d y s z here.0 (here.1, here.2)
sided_split false false b d x y s g h z on at off was = subst (λ k. Split k x s z) (sym (off refl refl)) was

pub sided_parts : (a s f g h : Look) (p : Names) (on : Bool) → length p ≡ 1 → IfSome (a p) (λ e. e.kind ≡ Project) → Fits f → Parts a s f
    → ((q : Names) → is_below p q ≡ true → Split (has_closed (option_map (set_to on) (a p))) (g q) (h q) (f q)) → Parts (sided a g p on) (beside s h p) f
sided_parts a s f g h p on one project w x moved q =
    sided_split (is_below p q) (is_at q p) (is_kept a q) (is_kept (sided a g p on) q) (a q) (option_map (set_to on) (a q)) (s q) (g q) (h q) (f q)
    (λ under.
    let at = below_prefix p q under in
    let member = member_below p q one at.0 at.1 in
    subst (λ b. Split b (g q) (h q) (f q))
    (sym (ap (λ b. b && has_closed (sided a g p on (project_of q))) member.1 ∙ ap (λ z. has_closed (sided a g p on z)) member.0 ∙ ap has_closed here)) (moved q under))
    (λ _ at.
    let same : q ≡ p = same_at q p at in
    let short : length q ≤ 1 = shorter q same in (
      short_kept (sided a g p on) q short,
      (split_false (is_kept a q) (a q) (s q) (f q) (short_kept a q short) (x q)).0,
      all_again on (a q) (subst (λ z. IfSome (a z) (λ e. e.kind ≡ Project)) (sym same) project) ∙ (split_false (is_kept a q) (a q) (s q) (f q) (short_kept a q short) (x q)).1,
    ))
    (λ out other. ap (λ z. is_member_path q && has_closed z) (elsewhere q out other))
    (x q)
  where
    here : sided a g p on p ≡ option_map (set_to on) (a p)
    here = cond_false (is_below p p) (g p) (changed_at a p (set_to on) p) (below_itself p) ∙ cond_true (is_at p p) (option_map (set_to on) (a p)) (a p) (at_itself p)

    shorter : (q : Names) → q ≡ p → length q ≤ 1
    shorter q same = let is : length q ≡ length p = ap length same in omega arith

    elsewhere : (q : Names) → is_below p q ≡ false → is_at q p ≡ false → sided a g p on (project_of q) ≡ a (project_of q)
    elsewhere q out other =
        cond_false (is_below p (project_of q)) (g (project_of q)) (changed_at a p (set_to on) (project_of q)) (not_true (is_below p (project_of q)) (λ under.
        let at = below_prefix p (project_of q) under in
        never (sym (member_below p (project_of q) one at.0 at.1).1 ∙ short_path (project_of q) (project_length q))))
        ∙ cond_false (is_at (project_of q) p) (option_map (set_to on) (a (project_of q))) (a (project_of q)) (at_other (project_of q) p (λ same.
        never (sym (is_below_of p q (in_project p q same) (λ e. never (sym (ap (λ z. is_at z p) e ∙ at_itself p) ∙ other))) ∙ out)))

pub or_is : (c : Bool) (x y : Option Element) → (c ≡ true → y ≡ None) → option_or (cond c x None) y ≡ cond c x y
or_is true x y h = ap (option_or x) (h refl) ∙ or_none x
or_is false x y h = refl

-- what stands once the members of p in u are put into t
get-members : (t u : Tree) (p q : Names) → (is_below p q ≡ true → get t q ≡ None) → get (put_all t (members u p)) q ≡ cond (is_below p q) (get u q) (get t q)
get-members t u p q free =
    get-put_all t (members u p) q
    ∙ ap (λ z. option_or z (get t q)) (last_is q (members u p) (sorted-members u p) ∙ find-members u p q)
    ∙ or_is (is_below p q) (get u q) (get t q) free

-- ---- the project

-- a project is there
pub record IsProject (r : Resources) (p : Names) : Type 0 where
  pub one : length p ≡ 1
  pub there : is_some (get r.tree p) ≡ true

pub project_there : (r : Resources) (p : Names) → first_cause (project_causes r.tree p) ≡ None → IsProject r p
project_there r p h =
    let a = passed (not (is_project_path p)) (WrongKind p) _ h in
    let b = passed (not (contains_key r.tree p)) (NotFound p) None a.1 in
    record { one = one_name p a.0; there = is_there (contains_key r.tree p) b.0 }

pub kind_there : (r : Resources) (p : Names) → IsConsistent r → length p ≡ 1 → IfSome (get r.tree p) (λ e. e.kind ≡ Project)
kind_there r p x one = if_map (λ e. (e.kind ≡ Project) ↔ (length p ≡ 1)) (λ e. e.kind ≡ Project) (get r.tree p) (λ e h. h.1 one) (x.tree.projects p)

-- what neither comes nor goes, whatever partners come
pub stays : (r : Resources) (partners : Partners) → IsConsistent r → length r.partners ≤ length partners → Keeps (λ _. ⊥) r (record r { partners = partners })
stays r partners x more = record {
  whole = whole_of r x;
  fits = whole_fits r x;
  parts = whole_parts r x;
  grows = record {
    later = later;
    tree = stays_tree (λ _. ⊥) r (record r { partners = partners }) later x.tree_known;
    shelf = stays_shelf (λ _. ⊥) r (record r { partners = partners }) later x.shelf_known;
    late = λ _ none. absurd none;
    same = λ _ _ none. absurd none;
  };
}
  where
    later : IsLater r (record r { partners = partners })
    later = (omega arith, omega arith, omega arith, more)

pub read_keeps : (r : Resources) → IsConsistent r → Keeps (λ _. ⊥) r r
read_keeps r x = stays r r.partners x (omega arith)

-- being open or not is neither contents nor a number
pub set_comes : (r after : Resources) (on : Bool) (e : Element) → Comes (λ _. ⊥) r after e → Comes (λ _. ⊥) r after (set_to on e)
set_comes r after on e c = record { drawn = record { node = c.drawn.node; stamp = c.drawn.stamp; desc_stamp = c.drawn.desc_stamp; marks = c.drawn.marks; syncs = c.drawn.syncs }; whence = by c.whence }
  where
    by : IsOld r e ⊎ ⊥ → IsOld r (set_to on e) ⊎ ⊥
    by (inl old) = inl record { from = old.from; stood = old.stood; kind = old.kind; stamp = old.stamp; bytes = old.bytes }
    by (inr never_fresh) = absurd never_fresh

pub sided_comes : (r after : Resources) (g : Look) (p : Names) (on : Bool) → ((q : Names) → IfSome (get r.tree q) (Comes (λ _. ⊥) r after))
    → ((q : Names) → IfSome (g q) (Comes (λ _. ⊥) r after))
    → (q : Names) → IfSome (sided (get r.tree) g p on q) (Comes (λ _. ⊥) r after)
sided_comes r after g p on here there q = at_cond (λ z. IfSome z (Comes (λ _. ⊥) r after)) (is_below p q) (g q) (changed_at (get r.tree) p (set_to on) q) (λ _. there q)
    (λ _. at_cond (λ z. IfSome z (Comes (λ _. ⊥) r after)) (is_at q p) (option_map (set_to on) (get r.tree q)) (get r.tree q)
    (λ _. map_if (set_to on) (Comes (λ _. ⊥) r after) (get r.tree q)
    (if_map (Comes (λ _. ⊥) r after) (λ e. Comes (λ _. ⊥) r after (set_to on e)) (get r.tree q) (set_comes r after on) (here q)))
    (λ _. here q))

pub beside_comes : (r after : Resources) (h : Look) (p : Names) → ((q : Names) → IfSome (get r.shelf q) (Comes (λ _. ⊥) r after))
    → ((q : Names) → IfSome (h q) (Comes (λ _. ⊥) r after))
    → (q : Names) → IfSome (beside (get r.shelf) h p q) (Comes (λ _. ⊥) r after)
beside_comes r after h p here there q = at_cond (λ z. IfSome z (Comes (λ _. ⊥) r after)) (is_below p q) (h q) (get r.shelf q) (λ _. there q) (λ _. here q)

-- members have changed sides, and the numbers are as they were
pub sided_keeps : (r : Resources) (tree shelf : Tree) (g h : Look) (p : Names) (on : Bool) (x : IsConsistent r) → IsProject r p
    → ((q : Names) → get tree q ≡ sided (get r.tree) g p on q) → ((q : Names) → get shelf q ≡ beside (get r.shelf) h p q)
    → ((q : Names) → is_below p q ≡ true → Split (has_closed (option_map (set_to on) (get r.tree p))) (g q) (h q) (get (whole_of r x) q))
    → ((q : Names) → IfSome (g q) (Comes (λ _. ⊥) r (record r { tree = tree; shelf = shelf })))
    → ((q : Names) → IfSome (h q) (Comes (λ _. ⊥) r (record r { tree = tree; shelf = shelf })))
    → Keeps (λ _. ⊥) r (record r { tree = tree; shelf = shelf })
sided_keeps r tree shelf g h p on x at is_tree is_shelf moved come go = record {
  whole = whole_of r x;
  fits = whole_fits r x;
  parts = parts_as (sided (get r.tree) g p on) (get tree) (beside (get r.shelf) h p) (get shelf) (get (whole_of r x)) (get (whole_of r x))
      (λ q. sym (is_tree q)) (λ q. sym (is_shelf q)) (λ _. refl)
      (sided_parts (get r.tree) (get r.shelf) (get (whole_of r x)) g h p on at.one (kind_there r p x at.one) (whole_fits r x) (whole_parts r x) moved);
  grows = record {
    later = still r;
    tree = λ q. if_as (Comes (λ _. ⊥) r after) (get tree q) (sided (get r.tree) g p on q) (is_tree q)
        (sided_comes r after g p on (stays_tree (λ _. ⊥) r after (still r) x.tree_known) come q);
    shelf = λ q. if_as (Comes (λ _. ⊥) r after) (get shelf q) (beside (get r.shelf) h p q) (is_shelf q)
        (beside_comes r after h p (stays_shelf (λ _. ⊥) r after (still r) x.shelf_known) go q);
    late = λ _ none. absurd none;
    same = λ _ _ none. absurd none;
  };
}
  where
    after : Resources
    after = record r { tree = tree; shelf = shelf }

-- ---- opening

pub opens : (r : Resources) (p : Names) → IsConsistent r → IsProject r p → has_closed (get r.tree (project_of p)) ≡ true
    → Keeps (λ _. ⊥) r (record r { tree = put_all (set_open r.tree p true) (members r.shelf p); shelf = without_members r.shelf p })
opens r p x at shut = sided_keeps r (put_all (set_open r.tree p true) (members r.shelf p)) (without_members r.shelf p) (get r.shelf) (λ _. None) p true x at
    (λ q. get-members (set_open r.tree p true) r.shelf p q (λ under. get-change_at r.tree p (set_to true) q ∙ gone q under)
    ∙ ap (cond (is_below p q) (get r.shelf q)) (get-change_at r.tree p (set_to true) q))
    (get-without_members r.shelf p)
    (λ q under. open_split (has_closed (option_map (set_to true) (get r.tree p))) (get r.shelf q) None (get (whole_of r x) q)
    (open_not_closed (option_map (set_to true) (get r.tree p)) (map_if (set_to true) IsOpen (get r.tree p) (if_there (λ e. IsOpen (set_to true e)) (get r.tree p) (λ e _ _. refl))))
    (refl, ap (option_map opened) (member q under).1 ∙ opened_all (get (whole_of r x) q) ((whole_fits r x).opened q) ∙ refl))
    (stays_shelf (λ _. ⊥) r after (still r) x.shelf_known) (λ _. tt)
  where
    after : Resources
    after = record r { tree = put_all (set_open r.tree p true) (members r.shelf p); shelf = without_members r.shelf p }

    shut_here : length p ≡ 1 → has_closed (get r.tree p) ≡ true
    shut_here one = ap (λ z. has_closed (get r.tree z)) (sym (project_itself p (omega arith))) ∙ shut

    member : (q : Names) → is_below p q ≡ true → (get r.tree q ≡ None) × (get r.shelf q ≡ get (whole_of r x) q)
    member q under =
        let below = below_prefix p q under in
        split_true (is_kept (get r.tree) q) (get r.tree q) (get r.shelf q) (get (whole_of r x) q) (member_kept (get r.tree) p q at.one below.0 below.1 (shut_here at.one)) (whole_parts r x q)

    gone : (q : Names) → is_below p q ≡ true → changed_at (get r.tree) p (set_to true) q ≡ None
    gone q under = at_cond (λ z. z ≡ None) (is_at q p) (option_map (set_to true) (get r.tree q)) (get r.tree q)
        (λ _. ap (option_map (set_to true)) (member q under).0) (λ _. (member q under).0)

pub open_keeps : (r : Resources) (p : Names) → IsConsistent r → first_cause (project_causes r.tree p) ≡ None → Keeps (λ _. ⊥) r (open_project r p)
open_keeps r p x h = at_cond (Keeps (λ _. ⊥) r) (is_shut r.tree p) (record r { tree = put_all (set_open r.tree p true) (members r.shelf p); shelf = without_members r.shelf p }) r
    (opens r p x (project_there r p h)) (λ _. read_keeps r x)

-- ---- closing

pub cut_then : (c m : Bool) (x : Option Element) (on : Bool)
    → cond m (option_map (set_to on) (cond c None x)) (cond c None x) ≡ cond c None (cond m (option_map (set_to on) x) x)
cut_then true true x on = refl
cut_then true false x on = refl
cut_then false m x on = refl

pub closed_now : (x : Option Element) → is_some x ≡ true → IfSome x (λ e. e.kind ≡ Project) → has_closed (option_map (set_to false) x) ≡ true
closed_now None h k = absurd (never (sym h))
closed_now (Some e) h k = ap (λ b. b && true) (project_true e.kind k)

pub closes : (r : Resources) (p : Names) → IsConsistent r → IsProject r p → has_closed (get r.tree (project_of p)) ≡ false
    → Keeps (λ _. ⊥) r (record r { tree = set_open (without_members r.tree p) p false; shelf = put_all r.shelf (members r.tree p) })
closes r p x at shown = sided_keeps r (set_open (without_members r.tree p) p false) (put_all r.shelf (members r.tree p)) (λ _. None) (get r.tree) p false x at
    (λ q. get-change_at (without_members r.tree p) p (set_to false) q
    ∙ ap (λ z. cond (is_at q p) (option_map (set_to false) z) z) (get-without_members r.tree p q) ∙ cut_then (is_below p q) (is_at q p) (get r.tree q) false)
    (λ q. get-members r.shelf r.tree p q (λ under. (member q under).0))
    (λ q under. kept_split (has_closed (option_map (set_to false) (get r.tree p))) None (get r.tree q) (get (whole_of r x) q)
    (closed_now (get r.tree p) at.there (kind_there r p x at.one))
    (refl, sym (opened_all (get r.tree q) (no_project q under)) ∙ (member q under).1))
    (λ _. tt) (stays_tree (λ _. ⊥) r after (still r) x.tree_known)
  where
    after : Resources
    after = record r { tree = set_open (without_members r.tree p) p false; shelf = put_all r.shelf (members r.tree p) }

    member : (q : Names) → is_below p q ≡ true → (get r.shelf q ≡ None) × (option_map opened (get r.tree q) ≡ get (whole_of r x) q)
    member q under =
        let below = below_prefix p q under in
        let in_p = member_below p q at.one below.0 below.1 in
        split_false (is_kept (get r.tree) q) (get r.tree q) (get r.shelf q) (get (whole_of r x) q)
        (open_kept (get r.tree) q (ap (λ z. has_closed (get r.tree z)) (in_p.0 ∙ sym (project_itself p (one_short p at.one))) ∙ shown)) (whole_parts r x q)

    -- a member is no project
    no_project : (q : Names) → is_below p q ≡ true → IfSome (get r.tree q) IsOpen
    no_project q under =
        let below = below_prefix p q under in
        let two : 2 ≤ length q = long_path q (member_below p q at.one below.0 below.1).1 in
        if_map (λ e. (e.kind ≡ Project) ↔ (length q ≡ 1)) IsOpen (get r.tree q) (λ e h k. let one : length q ≡ 1 = h.0 k in absurd (omega arith)) (x.tree.projects q)

pub close_keeps : (r : Resources) (p : Names) → IsConsistent r → first_cause (project_causes r.tree p) ≡ None → Keeps (λ _. ⊥) r (close_project r p)
close_keeps r p x h = at_cond (Keeps (λ _. ⊥) r) (is_shut r.tree p) r (record r { tree = set_open (without_members r.tree p) p false; shelf = put_all r.shelf (members r.tree p) })
    (λ _. read_keeps r x) (closes r p x (project_there r p h))
