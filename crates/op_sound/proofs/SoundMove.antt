-- Moving keeps resources sound.
use Rattle.std.proofs.Common.{◌≡◌, ◌≢◌, ◌↔◌, ℕ, ◌+◌, ◌≤◌, ◌==◌, Bool, true, false, not, cond, ◌&&◌, ◌||◌, List, [], ◌∷◌, ◌++◌, length, drop, refl, sym, ap, ◌∙◌, subst, arith, length-append}
use Rattle.std.specs.Prelude.{Option, Some, None, IfSome, IsSomeAnd, is_some}
use Rattle.std.specs.Bool.{beq}
use Rattle.std.specs.Option.{option_map}
use Rattle.std.specs.FinMap.{get, contains_key}
use Rattle.std.proofs.lemmas.Bool.Decides.{nat_tests}
use Rattle.std.proofs.Math.Seq.{drop-append_seam}
use Rattle.std.proofs.lemmas.List.{append-nil}
use Rattle.res_path.specs.Paths.{Names, parent, is_prefix}
use Rattle.ws_elem.specs.Kinds.{is_project}
use Rattle.ws_elem.specs.Trees.{Tree, Whole, without, branch}
use Rattle.ws_elem.specs.declared.element.Element.{Element}
use Rattle.ws_elem.specs.declared.kind.Kind.TheVariants.{File, Project, Root}
use Rattle.op_kind.specs.declared.refusal.OpRefusal.{OpRefusal}
use Rattle.op_kind.specs.declared.refusal.OpRefusal.TheVariants.{NotFound, WrongKind, ProjectClosed, IntoItself}
use Rattle.op_kind.specs.Resources.{Resources}
use Rattle.op_kind.specs.Places.{project_of, is_root_path, is_project_path, has_closed, is_shut}
use Rattle.op_kind.specs.Members.{put_all, rebased, carried}
use Rattle.proj_desc.specs.FirstCause.{when, first_cause}
use Rattle.op_kind.specs.Refusals.{kind_causes, closed, missing, place_causes, transfer_causes, fit_causes}
use Rattle.op_kind.specs.Effects.{move}
use Rattle.op_kind.specs.Sound.{opened, IsConsistent}
use Rattle.op_kind.proofs.PathsBelow.{one_short, never, not_true, prefix_is, prefix_front, prefix_parent, parent_append, project_below, project_itself}
use Rattle.op_kind.proofs.Cases.{if_as, at_cond, cond_true, cond_false, if_map, if_there, at_some, map_if, map_some, some_map}
use Rattle.op_kind.proofs.Looks.{Look, cut, get-without, find_at, find-branch, sorted-branch}
use Rattle.op_sound.proofs.SoundParts.{IsOpen, project_true, opened_node, is_kept, open_kept, split_false, in_whole, whole_of, whole_parts, whole_fits}
use Rattle.op_sound.proofs.SoundGrafts.{fits_as, parts_as, cut_fits, cut_parts, graft, IsGraft, graft_fits, graft_parts}
use Rattle.op_sound.proofs.SoundCarried.{rebased_back, get-carried, branch_below}
use Rattle.op_sound.proofs.SoundStamps.{Comes, still, stays_tree, stays_shelf}
use Rattle.op_sound.proofs.SoundSteps.{Keeps, passed, either, is_there, some_names, Place, free_place, whole_above, whole_free, tree_free}

-- ---- what isn't refused

-- what is at `from` may come to stand at `to`
pub record Transfer (t : Tree) (from to : Names) : Type 0 where
  pub some : from ≢ []
  pub level : (length from ≡ 1) ↔ (length to ≡ 1)
  pub shown : has_closed (get t (project_of from)) ≡ false
  pub there : is_some (get t from) ≡ true
  pub apart : is_prefix from to ≡ false
  pub place : Place (get t) to

pub same_level : (a b : ℕ) → not (beq (a == 1) (b == 1)) ≡ false → (a ≡ 1) ↔ (b ≡ 1)
same_level a b h = by (a == 1) refl (b == 1) refl h
  where
    yes_one : (n : ℕ) → (n == 1) ≡ true → n ≡ 1
    yes_one n g = grind (arith, nat_tests)

    not_one : (n : ℕ) → (n == 1) ≡ false → n ≡ 1 → ⊥
    not_one n g k = never (sym (ap (λ x. x == 1) k) ∙ g)

    by : (c : Bool) → (a == 1) ≡ c → (d : Bool) → (b == 1) ≡ d → not (beq c d) ≡ false → (a ≡ 1) ↔ (b ≡ 1)
    by true i true j k = (λ _. yes_one b j, λ _. yes_one a i)
    by true i false j k = absurd (never k)
    by false i true j k = absurd (never k)
    by false i false j k = (λ g. absurd (not_one a i g), λ g. absurd (not_one b j g))

pub transferred : (t : Tree) (from to : Names) (rs : List (Option OpRefusal))
    → first_cause (kind_causes from to ++ closed t from ∷ closed t to ∷ missing t from ∷ when (is_prefix from to) IntoItself ∷ place_causes t to ++ rs) ≡ None
    → Transfer t from to
transferred t from to rs h =
    let a = passed (is_root_path from || is_root_path to) (WrongKind []) _ h in
    let b = passed (not (beq (is_project_path from) (is_project_path to))) (WrongKind to) _ a.1 in
    let c = passed (is_shut t from) (ProjectClosed (project_of from)) _ b.1 in
    let d = passed (is_shut t to) (ProjectClosed (project_of to)) _ c.1 in
    let e = passed (not (contains_key t from)) (NotFound from) _ d.1 in
    let f = passed (is_prefix from to) IntoItself _ e.1 in
    let roots = either (is_root_path from) (is_root_path to) a.0 in
    record {
      some = some_names from roots.0;
      level = same_level (length from) (length to) b.0;
      shown = c.0;
      there = is_there (contains_key t from) e.0;
      apart = f.0;
      place = free_place t to rs (some_names to roots.1) d.0 f.1;
    }

-- ---- paths below `to`, and where they came from

pub rebased_parent : (from to q : Names) → is_prefix to q ≡ true → q ≢ to → parent (rebased to from q) ≡ rebased to from (parent q)
rebased_parent from to q h other =
    parent_append from rest some
    ∙ sym (ap (λ z. from ++ drop (length to) z) (ap parent (sym (prefix_is to q h)) ∙ parent_append to rest some)
    ∙ ap (λ z. from ++ z) (drop-append_seam to (parent rest)))
  where
    rest : Names
    rest = drop (length to) q

    some : rest ≢ []
    some e = other (sym (prefix_is to q h) ∙ ap (λ z. to ++ z) e ∙ append-nil to)

pub rebased_some : (from to q : Names) → from ≢ [] → rebased to from q ≢ []
rebased_some [] to q h e = h refl
rebased_some (n ∷ from) to q h e = cc

pub rebased_one : (from to p q : Names) → is_prefix to p ≡ true → is_prefix to q ≡ true → rebased to from p ≡ rebased to from q → p ≡ q
rebased_one from to p q h g e = sym (rebased_back to from p h) ∙ ap (rebased from to) e ∙ rebased_back to from q g

pub rebased_level : (from to q : Names) → from ≢ [] → to ≢ [] → is_prefix to q ≡ true → (length from ≡ 1) ↔ (length to ≡ 1)
    → (length (rebased to from q) ≡ 1) ↔ (length q ≡ 1)
rebased_level from to q h g under level =
    let a : length (rebased to from q) ≡ length from + length (drop (length to) q) = length-append from (drop (length to) q) in
    let b : length q ≡ length to + length (drop (length to) q) = sym (ap length (prefix_is to q under)) ∙ length-append to (drop (length to) q) in
    let k : 1 ≤ length from = names from h in
    let l : 1 ≤ length to = names to g in (
      λ one. let i : length from ≡ 1 = omega arith in let j : length to ≡ 1 = level.0 i in omega arith,
      λ one. let j : length to ≡ 1 = omega arith in let i : length from ≡ 1 = level.1 j in omega arith,
    )
  where
    names : (p : Names) → p ≢ [] → 1 ≤ length p
    names [] n = absurd (n refl)
    names (m ∷ p) n = omega arith

-- ---- what is carried

-- what stood where q comes from, changed so
abbrev pub brought : Look → Names → Names → (Names → Element → Element) → Look
brought a from to change q = option_map (change q) (a (rebased to from q))

-- a change that leaves kinds, and open projects open
pub record IsLight (change : Names → Element → Element) : Type 0 where
  pub kind : (q : Names) (e : Element) → (change q e).kind ≡ e.kind
  pub opened : (q : Names) (e : Element) → (change q e).opened ≡ e.opened

-- below what isn't closed all is open
pub open_below : (t : Tree) (from q : Names) → Whole t → from ≢ [] → has_closed (get t (project_of from)) ≡ false → is_prefix from q ≡ true → IfSome (get t q) IsOpen
open_below t from q w some shown under = if_there IsOpen (get t q) (λ e h k.
    let one : length q ≡ 1 = (at_some (λ g. (g.kind ≡ Project) ↔ (length q ≡ 1)) (get t q) e h (w.projects q)).0 k in
    is_open e k (ap has_closed (sym h) ∙ ap (λ z. has_closed (get t z)) (sym (project_itself q (one_short q one)) ∙ project_below from q some under) ∙ shown))
  where
    turned : (b : Bool) → not b ≡ false → b ≡ true
    turned true h = refl
    turned false h = absurd (never h)

    is_open : (e : Element) → e.kind ≡ Project → (is_project e.kind && not e.opened) ≡ false → e.opened ≡ true
    is_open e k h = turned e.opened (sym (ap (λ b. b && not e.opened) (project_true e.kind k)) ∙ h)

pub brought_open : (t : Tree) (from to : Names) (change : Names → Element → Element) → Whole t → IsLight change → Transfer t from to → (q : Names)
    → IfSome (brought (get t) from to change q) IsOpen
brought_open t from to change w light at q = map_if (change q) IsOpen (get t (rebased to from q)) (if_map IsOpen (λ e. IsOpen (change q e)) (get t (rebased to from q))
    (λ e h k. light.opened q e ∙ h (sym (light.kind q e) ∙ k))
    (open_below t from (rebased to from q) w at.some at.shown (prefix_front from (drop (length to) q))))

pub brought_graft : (t : Tree) (f : Look) (from to : Names) (change : Names → Element → Element) → Whole t → IsLight change → Transfer t from to
    → IsSomeAnd (f (parent to)) (λ e. e.kind ≢ File)
    → ((q u : Names) → is_prefix to q ≡ true → is_prefix to u ≡ true
    → IfSome (brought (get t) from to change q) (λ e. IfSome (brought (get t) from to change u) (λ h. e.node ≡ h.node → q ≡ u)))
    → ((q u : Names) → is_prefix to q ≡ true → is_prefix to u ≡ false → IfSome (brought (get t) from to change q) (λ e. IfSome (f u) (λ h. e.node ≢ h.node)))
    → IsGraft f (brought (get t) from to change) to
brought_graft t f from to change w light at above nodes apart = record {
  below = at.place.below;
  above = above;
  within = λ q under other. map_if (change q) (λ _. IsSomeAnd (brought (get t) from to change (parent q)) (λ e. e.kind ≢ File)) (get t (rebased to from q))
      (if_map (λ _. IsSomeAnd (get t (parent (rebased to from q))) (λ e. e.kind ≢ File))
      (λ _. IsSomeAnd (brought (get t) from to change (parent q)) (λ e. e.kind ≢ File)) (get t (rebased to from q))
      (λ _ h. map_some (change (parent q)) (λ e. e.kind ≢ File) (get t (rebased to from (parent q)))
      (some_map (λ e. e.kind ≢ File) (λ e. (change (parent q) e).kind ≢ File) (get t (rebased to from (parent q)))
      (λ e g k. g (sym (light.kind (parent q) e) ∙ k)) (subst (λ z. IsSomeAnd (get t z) (λ e. e.kind ≢ File)) (rebased_parent from to q under other) h)))
      (w.parents (rebased to from q) (rebased_some from to q at.some)));
  no_root = λ q. map_if (change q) (λ e. e.kind ≢ Root) (get t (rebased to from q))
      (if_map (λ e. e.kind ≡ Root → rebased to from q ≡ []) (λ e. (change q e).kind ≢ Root) (get t (rebased to from q))
      (λ e h k. rebased_some from to q at.some (h (sym (light.kind q e) ∙ k))) (w.only_root (rebased to from q)));
  projects = λ q under. map_if (change q) (λ e. (e.kind ≡ Project) ↔ (length q ≡ 1)) (get t (rebased to from q))
      (if_map (λ e. (e.kind ≡ Project) ↔ (length (rebased to from q) ≡ 1)) (λ e. ((change q e).kind ≡ Project) ↔ (length q ≡ 1)) (get t (rebased to from q))
      (λ e h. let level = rebased_level from to q at.some at.place.below under at.level in
      (λ k. level.0 (h.0 (sym (light.kind q e) ∙ k)), λ l. light.kind q e ∙ h.1 (level.1 l)))
      (w.projects (rebased to from q)));
  opened = brought_open t from to change w light at;
  nodes = nodes;
  apart = apart;
}

-- what is brought is found where it came from
pub find-brought : (u : Tree) (from to q : Names) → find_at (rebased to from q) (branch u from) ≡ get u (rebased to from q)
find-brought u from to q = find-branch u from (rebased to from q) ∙ cond_true (is_prefix from (rebased to from q)) (get u (rebased to from q)) None (prefix_front from (drop (length to) q))

-- what stands once elements from below `from` were put at `to`, where nothing was
pub get-brought : (t u : Tree) (from to : Names) → ((q : Names) → is_prefix to q ≡ true → get t q ≡ None) → (q : Names)
    → get (put_all t (carried from to (branch u from))) q ≡ graft (get t) (λ r. get u (rebased to from r)) to q
get-brought t u from to free q = get-carried t from to (branch u from) (branch_below u from) (sorted-branch u from) free q
    ∙ ap (λ x. cond (is_prefix to q) x (get t q)) (find-brought u from to q)

-- ---- moving

-- an element that is carried stays as it was
abbrev as_was : Names → Element → Element
as_was _ e = e

pub map_itself : (x : Option Element) → option_map (λ e. e) x ≡ x
map_itself None = refl
map_itself (Some e) = refl

-- the node of what is carried is its own
pub carried_apart : (r : Resources) (x : IsConsistent r) (from to q u : Names) → is_prefix from u ≡ false
    → IfSome (get r.tree (rebased to from q)) (λ e. IfSome (get (whole_of r x) u) (λ l. e.node ≢ l.node))
carried_apart r x from to q u away = if_there (λ e. IfSome (get (whole_of r x) u) (λ l. e.node ≢ l.node)) (get r.tree (rebased to from q)) (λ e is.
    if_map (λ l. (opened e).node ≡ l.node → rebased to from q ≡ u) (λ l. e.node ≢ l.node) (get (whole_of r x) u)
    (λ l h same. never (sym (ap (is_prefix from) (sym (h (opened_node e ∙ same))) ∙ prefix_front from (drop (length to) q)) ∙ away))
    (at_some (λ g. IfSome (get (whole_of r x) u) (λ l. g.node ≡ l.node → rebased to from q ≡ u)) (get (whole_of r x) (rebased to from q)) (opened e)
    (in_whole (get r.tree) (get r.shelf) (get (whole_of r x)) (whole_fits r x) (whole_parts r x) (rebased to from q) e is) ((whole_fits r x).nodes (rebased to from q) u)))

-- the shelf has nothing below what isn't closed
pub shelf_left : (r : Resources) (x : IsConsistent r) (from : Names) → from ≢ [] → has_closed (get r.tree (project_of from)) ≡ false → (q : Names)
    → cut (get r.shelf) from q ≡ get r.shelf q
shelf_left r x from some shown q = at_cond (λ z. z ≡ get r.shelf q) (is_prefix from q) None (get r.shelf q)
    (λ under. sym (split_false (is_kept (get r.tree) q) (get r.tree q) (get r.shelf q) (get (whole_of r x) q)
    (open_kept (get r.tree) q (ap (λ z. has_closed (get r.tree z)) (project_below from q some under) ∙ shown)) (whole_parts r x q)).0)
    (λ _. refl)

pub moved_graft : (r : Resources) (from to : Names) (x : IsConsistent r) → Transfer r.tree from to
    → IsGraft (cut (get (whole_of r x)) from) (brought (get r.tree) from to as_was) to
moved_graft r from to x at = brought_graft r.tree (cut (get (whole_of r x)) from) from to as_was x.tree record { kind = λ _ _. refl; opened = λ _ _. refl } at
    (subst (λ z. IsSomeAnd z (λ e. e.kind ≢ File))
    (sym (cond_false (is_prefix from (parent to)) None (get (whole_of r x) (parent to)) (not_true (is_prefix from (parent to)) (λ h. never (sym (prefix_parent from to h) ∙ at.apart)))))
    (whole_above r x to at.place))
    (λ q u in_q in_u. map_if (λ e. e) (λ e. IfSome (brought (get r.tree) from to as_was u) (λ l. e.node ≡ l.node → q ≡ u)) (get r.tree (rebased to from q))
    (if_map (λ e. IfSome (get r.tree (rebased to from u)) (λ l. e.node ≡ l.node → rebased to from q ≡ rebased to from u))
    (λ e. IfSome (brought (get r.tree) from to as_was u) (λ l. e.node ≡ l.node → q ≡ u)) (get r.tree (rebased to from q))
    (λ e h. map_if (λ l. l) (λ l. e.node ≡ l.node → q ≡ u) (get r.tree (rebased to from u))
    (if_map (λ l. e.node ≡ l.node → rebased to from q ≡ rebased to from u) (λ l. e.node ≡ l.node → q ≡ u) (get r.tree (rebased to from u))
    (λ l k same. rebased_one from to q u in_q in_u (k same)) h))
    (x.tree.nodes (rebased to from q) (rebased to from u))))
    (λ q u _ _. map_if (λ e. e) (λ e. IfSome (cut (get (whole_of r x)) from u) (λ l. e.node ≢ l.node)) (get r.tree (rebased to from q))
    (at_cond (λ z. IfSome (get r.tree (rebased to from q)) (λ e. IfSome z (λ l. e.node ≢ l.node))) (is_prefix from u) None (get (whole_of r x) u)
    (λ _. if_there (λ _. Unit {0}) (get r.tree (rebased to from q)) (λ _ _. tt)) (carried_apart r x from to q u)))

pub moves : (r : Resources) (from to : Names) → IsConsistent r → Transfer r.tree from to → Keeps (λ _. ⊥) r (move r from to)
moves r from to x at = record {
  whole = put_all (without (whole_of r x) from) (carried from to (branch r.tree from));
  fits = fits_as (graft (cut (get (whole_of r x)) from) (brought (get r.tree) from to as_was) to) (get (put_all (without (whole_of r x) from) (carried from to (branch r.tree from))))
      (is_moved (whole_of r x) (whole_free r x to at.place))
      (graft_fits (cut (get (whole_of r x)) from) (brought (get r.tree) from to as_was) to (cut_fits (get (whole_of r x)) from at.some (whole_fits r x)) (moved_graft r from to x at));
  parts = parts_as (graft (cut (get r.tree) from) (brought (get r.tree) from to as_was) to) (get (move r from to).tree) (cut (get r.shelf) from) (get r.shelf)
      (graft (cut (get (whole_of r x)) from) (brought (get r.tree) from to as_was) to) (get (put_all (without (whole_of r x) from) (carried from to (branch r.tree from))))
      (λ q. sym (is_moved r.tree (tree_free r x to at.place) q)) (shelf_left r x from at.some at.shown) (λ q. sym (is_moved (whole_of r x) (whole_free r x to at.place) q))
      (graft_parts (cut (get r.tree) from) (cut (get r.shelf) from) (cut (get (whole_of r x)) from) (brought (get r.tree) from to as_was) to at.place.below
      (at_cond (λ z. has_closed z ≡ false) (is_prefix from (project_of to)) None (get r.tree (project_of to)) (λ _. refl) (λ _. at.place.shown))
      (moved_graft r from to x at).opened (cut_parts (get r.tree) (get r.shelf) (get (whole_of r x)) from (whole_parts r x)));
  grows = record {
    later = still r;
    tree = λ q. if_as (Comes (λ _. ⊥) r (move r from to)) (get (move r from to).tree q) (graft (cut (get r.tree) from) (brought (get r.tree) from to as_was) to q)
        (is_moved r.tree (tree_free r x to at.place) q)
        (at_cond (λ z. IfSome z (Comes (λ _. ⊥) r (move r from to))) (is_prefix to q) (brought (get r.tree) from to as_was q) (cut (get r.tree) from q)
        (λ _. map_if (λ e. e) (Comes (λ _. ⊥) r (move r from to)) (get r.tree (rebased to from q)) (was (rebased to from q)))
        (λ _. at_cond (λ z. IfSome z (Comes (λ _. ⊥) r (move r from to))) (is_prefix from q) None (get r.tree q) (λ _. tt) (λ _. was q)));
    shelf = stays_shelf (λ _. ⊥) r (move r from to) (still r) x.shelf_known;
    late = λ _ none. absurd none;
    same = λ _ _ none. absurd none;
  };
}
  where
    is_moved : (t : Tree) → ((q : Names) → is_prefix to q ≡ true → get t q ≡ None) → (q : Names)
        → get (put_all (without t from) (carried from to (branch r.tree from))) q ≡ graft (cut (get t) from) (brought (get r.tree) from to as_was) to q
    is_moved t none q = get-brought (without t from) r.tree from to (λ u h. get-without t from u ∙ at_cond (λ z. z ≡ None) (is_prefix from u) None (get t u) (λ _. refl) (λ _. none u h)) q
        ∙ (λ i. cond (is_prefix to q) (sym (map_itself (get r.tree (rebased to from q))) i) (get-without t from q i))

    was : (q : Names) → IfSome (get r.tree q) (Comes (λ _. ⊥) r (move r from to))
    was = stays_tree (λ _. ⊥) r (move r from to) (still r) x.tree_known

pub move_keeps : (r : Resources) (from to : Names) → IsConsistent r → first_cause (transfer_causes r.tree from to) ≡ None → Keeps (λ _. ⊥) r (move r from to)
move_keeps r from to x h = moves r from to x (transferred r.tree from to (fit_causes r.tree from to) h)
