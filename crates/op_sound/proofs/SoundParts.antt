-- A sound tree and its shelf, as the parts of one whole tree in which every project is open.
use Rattle.std.proofs.Common.{◌≡◌, ◌≢◌, ◌↔◌, ◌≤◌, ◌<◌, Bool, true, false, not, cond, ◌&&◌, [], ◌∷◌, length, take, refl, sym, ap, ◌∙◌, subst, arith}
use Rattle.std.specs.Prelude.{Option, Some, None, IfSome, IsSomeAnd}
use Rattle.std.specs.Option.{option_map, option_or}
use Rattle.std.specs.FinMap.{get}
use Rattle.std.proofs.lemmas.Bool.Decides.{nat_tests}
use Rattle.res_path.specs.Paths.{Names, parent, is_prefix}
use Rattle.ws_elem.specs.Kinds.{is_project}
use Rattle.ws_elem.specs.Trees.{Tree, Whole}
use Rattle.ws_elem.specs.declared.element.Element.{Element}
use Rattle.ws_elem.specs.declared.kind.Kind.{Kind}
use Rattle.ws_elem.specs.declared.kind.Kind.TheVariants.{File, Folder, Project, Root}
use Rattle.op_kind.specs.Resources.{Resources}
use Rattle.op_kind.specs.Places.{project_of, is_member_path, has_closed, is_in_shut}
use Rattle.op_kind.specs.Sound.{opened, IsConsistent}
use Rattle.op_kind.specs.Stamps.{IsKnown}
use Rattle.op_kind.proofs.PathsBelow.{one_short, never, both, not_true, project_prefix, project_length, project_itself, project_below, parent_shorter}
use Rattle.op_kind.proofs.Cases.{at_cond, if_map, if_there, at_some, none_some, if_none, none_if, map_if, or_none, some_none}
use Rattle.op_kind.proofs.Looks.{Look}

-- ---- kinds

pub project_true : (k : Kind) → k ≡ Project → is_project k ≡ true
project_true k h = ap is_project h

pub project_only : (k : Kind) → is_project k ≡ true → k ≡ Project
project_only File h = absurd (never (sym h))
project_only Folder h = absurd (never (sym h))
project_only Project h = refl
project_only Root h = absurd (never (sym h))

-- a project is open
abbrev pub IsOpen : Element → Type 0
IsOpen e = e.kind ≡ Project → e.opened ≡ true

-- opening changes neither kind nor node
pub opened_kind : (e : Element) → (opened e).kind ≡ e.kind
opened_kind e = elim (is_project e.kind) as (λ b. (cond b (record e { opened = true }) e).kind ≡ e.kind) [ true ↦ refl | false ↦ refl ]

pub opened_node : (e : Element) → (opened e).node ≡ e.node
opened_node e = elim (is_project e.kind) as (λ b. (cond b (record e { opened = true }) e).node ≡ e.node) [ true ↦ refl | false ↦ refl ]

pub opened_open : (e : Element) → IsOpen (opened e)
opened_open e h = by (is_project e.kind) (project_true e.kind (sym (opened_kind e) ∙ h))
  where
    by : (b : Bool) → b ≡ true → (cond b (record e { opened = true }) e).opened ≡ true
    by true g = refl
    by false g = absurd (never (sym g))

-- what is open stays as it is
pub opened_same : (e : Element) → IsOpen e → opened e ≡ e
opened_same e h = at_cond (λ x. x ≡ e) (is_project e.kind) (record e { opened = true }) e
    (λ b. λ i. record e { opened = sym (h (project_only e.kind b)) i })
    (λ _. refl)

-- a closed project is no open one
pub open_not_closed : (x : Option Element) → IfSome x IsOpen → has_closed x ≡ false
open_not_closed None h = refl
open_not_closed (Some e) h = not_true (is_project e.kind && not e.opened) (λ g.
    let parts = both (is_project e.kind) (not e.opened) g in
    never (sym parts.1 ∙ ap not (h (project_only e.kind parts.0))))

-- ---- a whole tree in which every project is open

pub record Fits (f : Look) : Type 0 where
  pub root : IsSomeAnd (f []) (λ e. e.kind ≡ Root)
  pub only_root : (p : Names) → IfSome (f p) (λ e. e.kind ≡ Root → p ≡ [])
  pub parents : (p : Names) → p ≢ [] → IfSome (f p) (λ _. IsSomeAnd (f (parent p)) (λ e. e.kind ≢ File))
  pub projects : (p : Names) → IfSome (f p) (λ e. (e.kind ≡ Project) ↔ (length p ≡ 1))
  pub opened : (p : Names) → IfSome (f p) IsOpen
  pub nodes : (p q : Names) → IfSome (f p) (λ e. IfSome (f q) (λ g. e.node ≡ g.node → p ≡ q))

pub fits_whole : (t : Tree) → Fits (get t) → Whole t
fits_whole t w = record {
  root = w.root;
  only_root = w.only_root;
  parents = w.parents;
  projects = w.projects;
  closed = λ p q. if_map IsOpen (λ e. e.kind ≡ Project → e.opened ≡ false → is_prefix p q ≡ true → q ≢ p → get t q ≡ None) (get t p)
      (λ e h k o. absurd (never (sym (h k) ∙ o))) (w.opened p);
  nodes = w.nodes;
}

-- ---- its parts

-- q has the path of a member of a closed project
abbrev pub is_kept : Look → Names → Bool
is_kept f q = is_member_path q && has_closed (f (project_of q))

-- a member of a closed project stands on the shelf alone, and all else in the tree alone, maybe closed
abbrev pub Split : Bool → Option Element → Option Element → Option Element → Type 0
Split true x s y = (x ≡ None) × (s ≡ y)
Split false x s y = (s ≡ None) × (option_map opened x ≡ y)

abbrev pub Parts : Look → Look → Look → Type 0
Parts a s f = (q : Names) → Split (is_kept a q) (a q) (s q) (f q)

pub split_true : (b : Bool) (x s y : Option Element) → b ≡ true → Split b x s y → (x ≡ None) × (s ≡ y)
split_true b x s y h g = subst (λ c. Split c x s y) h g

pub split_false : (b : Bool) (x s y : Option Element) → b ≡ false → Split b x s y → (s ≡ None) × (option_map opened x ≡ y)
split_false b x s y h g = subst (λ c. Split c x s y) h g

pub kept_split : (b : Bool) (x s y : Option Element) → b ≡ true → (x ≡ None) × (s ≡ y) → Split b x s y
kept_split b x s y h g = subst (λ c. Split c x s y) (sym h) g

pub open_split : (b : Bool) (x s y : Option Element) → b ≡ false → (s ≡ None) × (option_map opened x ≡ y) → Split b x s y
open_split b x s y h g = subst (λ c. Split c x s y) (sym h) g

pub long_path : (p : Names) → is_member_path p ≡ true → 2 ≤ length p
long_path p h = grind (arith, nat_tests)

pub short_path : (p : Names) → length p ≤ 1 → is_member_path p ≡ false
short_path p h = grind (arith, nat_tests)

-- what is below a project's path is a member's path in it
pub member_below : (p q : Names) → length p ≡ 1 → is_prefix p q ≡ true → q ≢ p → (take 1 q ≡ p) × (is_member_path q ≡ true)
member_below p q one under other = (same, not_short (is_member_path q) (λ h. other (sym (project_itself q (short q h)) ∙ same)))
  where
    some_names : (p : Names) → length p ≡ 1 → p ≢ []
    some_names [] h e = absurd (omega arith)
    some_names (n ∷ p) h e = cc

    same : take 1 q ≡ p
    same = project_below p q (some_names p one) under ∙ project_itself p (omega arith)

    short : (q : Names) → is_member_path q ≡ false → length q ≤ 1
    short q h = grind (arith, nat_tests)

    not_short : (b : Bool) → (b ≡ false → ⊥) → b ≡ true
    not_short true h = refl
    not_short false h = absurd (h refl)

-- and so a closed project's member's
pub member_kept : (f : Look) (p q : Names) → length p ≡ 1 → is_prefix p q ≡ true → q ≢ p → has_closed (f p) ≡ true → is_kept f q ≡ true
member_kept f p q one under other c =
    let at = member_below p q one under other in
    ap (λ b. b && has_closed (f (project_of q))) at.1 ∙ ap (λ z. has_closed (f z)) at.0 ∙ c

-- a path that isn't longer than a project's is no member's
pub short_kept : (f : Look) (p : Names) → length p ≤ 1 → is_kept f p ≡ false
short_kept f p h = ap (λ b. b && has_closed (f (project_of p))) (short_path p h)

pub open_kept : (f : Look) (p : Names) → has_closed (f (project_of p)) ≡ false → is_kept f p ≡ false
open_kept f p h = by (is_member_path p) (has_closed (f (project_of p))) h
  where
    by : (a b : Bool) → b ≡ false → (a && b) ≡ false
    by true b g = g
    by false b g = refl

module _ (a s f : Look) (w : Fits f) (x : Parts a s f) where
  -- what is in the tree is in the whole one
  pub in_whole : (p : Names) (e : Element) → a p ≡ Some e → f p ≡ Some (opened e)
  in_whole p e h = by (is_kept a p) (x p)
    where
      by : (b : Bool) → Split b (a p) (s p) (f p) → f p ≡ Some (opened e)
      by true g = absurd (some_none e (sym h ∙ g.0))
      by false g = sym g.1 ∙ ap (option_map opened) h

  -- what is in the whole tree and no closed project's member is in the tree
  pub in_tree : (p : Names) → is_kept a p ≡ false → f p ≡ option_map opened (a p)
  in_tree p h = sym (split_false (is_kept a p) (a p) (s p) (f p) h (x p)).1

  -- a project's path, or the root's, is in the tree
  pub at_top : (p : Names) → length p ≤ 1 → f p ≡ option_map opened (a p)
  at_top p h = in_tree p (short_kept a p h)

pub opened_if : (B : Element → Type 0) (x y : Option Element) → ((e : Element) → B (opened e) → B e) → y ≡ option_map opened x → IsSomeAnd y B → IsSomeAnd x B
opened_if B None y f h g = absurd (none_some B y h g)
opened_if B (Some e) y f h g = f e (subst (λ z. IsSomeAnd z B) h g)

pub no_file : (e : Element) → (opened e).kind ≢ File → e.kind ≢ File
no_file e h k = h (opened_kind e ∙ k)

-- a tree with such parts is whole
pub parts_whole : (t : Tree) (s f : Look) → Fits f → Parts (get t) s f → Whole t
parts_whole t s f w x = record {
  root = opened_if (λ e. e.kind ≡ Root) (get t []) (f []) (λ e h. sym (opened_kind e) ∙ h) (at_top (get t) s f w x [] (omega arith)) w.root;
  only_root = λ p. if_there (λ e. e.kind ≡ Root → p ≡ []) (get t p) (λ e h k.
      at_some (λ g. g.kind ≡ Root → p ≡ []) (f p) (opened e) (in_whole (get t) s f w x p e h) (w.only_root p) (opened_kind e ∙ k));
  parents = λ p below. if_there (λ _. IsSomeAnd (get t (parent p)) (λ e. e.kind ≢ File)) (get t p) (λ e h.
      above p e below h (at_some (λ _. IsSomeAnd (f (parent p)) (λ g. g.kind ≢ File)) (f p) (opened e) (in_whole (get t) s f w x p e h) (w.parents p below)));
  projects = project;
  closed = λ p q. if_there (λ e. e.kind ≡ Project → e.opened ≡ false → is_prefix p q ≡ true → q ≢ p → get t q ≡ None) (get t p) (shut p q);
  nodes = λ p q. if_there (λ e. IfSome (get t q) (λ g. e.node ≡ g.node → p ≡ q)) (get t p) (λ e h.
      if_there (λ g. e.node ≡ g.node → p ≡ q) (get t q) (λ g i same.
      at_some (λ k. (opened e).node ≡ k.node → p ≡ q) (f q) (opened g) (in_whole (get t) s f w x q g i)
      (at_some (λ k. IfSome (f q) (λ l. k.node ≡ l.node → p ≡ q)) (f p) (opened e) (in_whole (get t) s f w x p e h) (w.nodes p q))
      (opened_node e ∙ same ∙ sym (opened_node g))));
}
  where
    project : (p : Names) → IfSome (get t p) (λ e. (e.kind ≡ Project) ↔ (length p ≡ 1))
    project p = if_there (λ e. (e.kind ≡ Project) ↔ (length p ≡ 1)) (get t p) (λ e h.
        let both_ways : ((opened e).kind ≡ Project) ↔ (length p ≡ 1) = at_some (λ g. (g.kind ≡ Project) ↔ (length p ≡ 1)) (f p) (opened e) (in_whole (get t) s f w x p e h) (w.projects p) in
        (λ k. both_ways.0 (opened_kind e ∙ k), λ l. sym (opened_kind e) ∙ both_ways.1 l))

    -- a member's parent is a member or its project
    parent_kept : (p : Names) → is_kept (get t) (parent p) ≡ true → is_kept (get t) p ≡ true
    parent_kept [] h = h
    parent_kept (n ∷ []) h = h
    parent_kept (n ∷ m ∷ p) h =
        let parts = both (is_member_path (parent (n ∷ m ∷ p))) (has_closed (get t (n ∷ []))) h in
        ap (λ b. is_member_path (n ∷ m ∷ p) && b) parts.1 ∙ ap (λ b. b && true) (member (n ∷ m ∷ p) (long_path (parent (n ∷ m ∷ p)) parts.0) (parent_shorter (n ∷ m ∷ p) (λ e. cc)))
      where
        member : (q : Names) → 2 ≤ length (parent q) → length (parent q) < length q → is_member_path q ≡ true
        member q l g = grind (arith, nat_tests)

    above : (p : Names) (e : Element) → p ≢ [] → get t p ≡ Some e → IsSomeAnd (f (parent p)) (λ g. g.kind ≢ File) → IsSomeAnd (get t (parent p)) (λ g. g.kind ≢ File)
    above p e below h g = opened_if (λ k. k.kind ≢ File) (get t (parent p)) (f (parent p)) no_file (in_tree (get t) s f w x (parent p) (not_true (is_kept (get t) (parent p)) (λ k.
        some_none e (sym h ∙ (split_true (is_kept (get t) p) (get t p) (s p) (f p) (parent_kept p k) (x p)).0)))) g

    closed_there : (e : Element) → e.kind ≡ Project → e.opened ≡ false → has_closed (Some e) ≡ true
    closed_there e k o = ap (λ b. b && not e.opened) (project_true e.kind k) ∙ ap not o

    shut : (p q : Names) (e : Element) → get t p ≡ Some e → e.kind ≡ Project → e.opened ≡ false → is_prefix p q ≡ true → q ≢ p → get t q ≡ None
    shut p q e h k o under other =
        let one : length p ≡ 1 = (at_some (λ g. (g.kind ≡ Project) ↔ (length p ≡ 1)) (get t p) e h (project p)).0 k in
        (split_true (is_kept (get t) q) (get t q) (s q) (f q) (member_kept (get t) p q one under other (ap has_closed h ∙ closed_there e k o)) (x q)).0

-- ---- sound resources

pub parts_sound : (r : Resources) (t : Tree) → Fits (get t) → Parts (get r.tree) (get r.shelf) (get t) → IsKnown r r.tree → IsKnown r r.shelf → IsConsistent r
parts_sound r t w x k l = record {
  tree = parts_whole r.tree (get r.shelf) (get t) w x;
  unshelved = (t, (λ p. joined (is_kept (get r.tree) p) (get r.tree p) (get r.shelf p) (get t p) (x p)), fits_whole t w);
  shelf = λ p. kept p (is_kept (get r.tree) p) refl (x p);
  tree_known = k;
  shelf_known = l;
}
  where
    joined : (b : Bool) (y s z : Option Element) → Split b y s z → z ≡ option_or (option_map opened y) s
    joined true y s z h = sym h.1 ∙ ap (λ o. option_or (option_map opened o) s) (sym h.0)
    joined false y s z h = sym h.1 ∙ sym (or_none (option_map opened y)) ∙ ap (option_or (option_map opened y)) (sym h.0)

    kept : (p : Names) (b : Bool) → is_kept (get r.tree) p ≡ b → Split b (get r.tree p) (get r.shelf p) (get t p)
        → IfSome (get r.shelf p) (λ _. is_in_shut r.tree p ≡ true)
    kept p true h g = if_there (λ _. is_in_shut r.tree p ≡ true) (get r.shelf p) (λ e _. h)
    kept p false h g = none_if (λ _. is_in_shut r.tree p ≡ true) (get r.shelf p) g.0

-- a closed project is there
pub if_closed : (B : Type 0) (y : Option Element) → has_closed y ≡ true → IfSome y (λ e. e.kind ≡ Project → e.opened ≡ false → B) → B
if_closed B None h g = absurd (never (sym h))
if_closed B (Some e) h g = let parts = both (is_project e.kind) (not e.opened) h in g (project_only e.kind parts.0) (shut e.opened parts.1)
  where
    shut : (b : Bool) → not b ≡ true → b ≡ false
    shut true h = absurd (never (sym h))
    shut false h = refl

pub longer : (p : Names) → 2 ≤ length p → p ≢ take 1 p
longer p h e = let less : length (take 1 p) ≤ 1 = project_length p in let same : length p ≡ length (take 1 p) = ap length e in absurd (omega arith)

-- the whole tree whose parts sound resources are
abbrev pub whole_of : (r : Resources) → IsConsistent r → Tree
whole_of r x = x.unshelved.0

pub whole_parts : (r : Resources) (x : IsConsistent r) → Parts (get r.tree) (get r.shelf) (get (whole_of r x))
whole_parts r x p = by (is_kept (get r.tree) p) refl
  where
    -- nothing is below a closed project
    gone : is_kept (get r.tree) p ≡ true → get r.tree p ≡ None
    gone h =
        let at = both (is_member_path p) (has_closed (get r.tree (project_of p))) h in
        if_closed (is_prefix (project_of p) p ≡ true → p ≢ project_of p → get r.tree p ≡ None) (get r.tree (project_of p)) at.1 (x.tree.closed (project_of p) p)
        (project_prefix p) (longer p (long_path p at.0))

    by : (b : Bool) → is_kept (get r.tree) p ≡ b → Split b (get r.tree p) (get r.shelf p) (get (whole_of r x) p)
    by true h = (gone h, sym (x.unshelved.1 p ∙ ap (λ o. option_or (option_map opened o) (get r.shelf p)) (gone h)))
    by false h =
        let none : get r.shelf p ≡ None = if_none (get r.shelf p) (if_map (λ _. is_in_shut r.tree p ≡ true) (λ _. ⊥) (get r.shelf p) (λ e g. never (sym g ∙ h)) (x.shelf p)) in
        (none, sym (x.unshelved.1 p ∙ ap (option_or (option_map opened (get r.tree p))) none ∙ or_none (option_map opened (get r.tree p))))

pub whole_fits : (r : Resources) (x : IsConsistent r) → Fits (get (whole_of r x))
whole_fits r x = record {
  root = x.unshelved.2.root;
  only_root = x.unshelved.2.only_root;
  parents = x.unshelved.2.parents;
  projects = x.unshelved.2.projects;
  opened = λ p. if_there IsOpen (get (whole_of r x) p) (λ e h. open_at p e h (at_some (λ g. (g.kind ≡ Project) ↔ (length p ≡ 1)) (get (whole_of r x) p) e h (x.unshelved.2.projects p)));
  nodes = x.unshelved.2.nodes;
}
  where
    -- a project comes from the tree, where it was opened
    open_at : (p : Names) (e : Element) → get (whole_of r x) p ≡ Some e → (e.kind ≡ Project) ↔ (length p ≡ 1) → IsOpen e
    open_at p e h one k =
        let top : get (whole_of r x) p ≡ option_map opened (get r.tree p) =
        sym (split_false (is_kept (get r.tree) p) (get r.tree p) (get r.shelf p) (get (whole_of r x) p) (short_kept (get r.tree) p (one_short p (one.0 k))) (whole_parts r x p)).1 in
        at_some IsOpen (option_map opened (get r.tree p)) e (sym top ∙ h) (map_if opened IsOpen (get r.tree p) (if_there (λ g. IsOpen (opened g)) (get r.tree p) (λ g _. opened_open g))) k
