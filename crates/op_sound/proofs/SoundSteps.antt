-- What an operation owes that keeps resources sound, and what is known where it isn't refused.
use Rattle.std.proofs.Common.{◌≡◌, ◌≢◌, ℕ, zero, suc, ◌≤◌, ◌<◌, ◌==◌, Bool, true, false, not, ◌||◌, List, [], ◌∷◌, length, refl, sym, ap, ◌∙◌, subst, arith}
use Rattle.std.specs.Prelude.{Option, Some, None, IfSome, IsSomeAnd, is_some}
use Rattle.std.specs.Option.{option_map, option_or}
use Rattle.std.specs.FinMap.{get, contains_key}
use Rattle.res_path.specs.Paths.{Names, parent, is_prefix}
use Rattle.ws_elem.specs.Kinds.{is_file}
use Rattle.ws_elem.specs.Trees.{Tree}
use Rattle.ws_elem.specs.declared.element.Element.{Element}
use Rattle.ws_elem.specs.declared.kind.Kind.TheVariants.{File}
use Rattle.op_kind.specs.declared.refusal.OpRefusal.{OpRefusal}
use Rattle.op_kind.specs.declared.refusal.OpRefusal.TheVariants.{NotFound, Exists, NotContainer}
use Rattle.op_kind.specs.Resources.{Resources}
use Rattle.op_kind.specs.Places.{project_of, is_root_path, has_file, has_closed}
use Rattle.proj_desc.specs.FirstCause.{when, first_cause}
use Rattle.op_kind.specs.Sound.{opened, IsConsistent}
use Rattle.op_kind.specs.Stamps.{IsKnown, IsDrawn, AllDrawn}
use Rattle.op_kind.proofs.PathsBelow.{never, root_above, parent_below, parent_shorter}
use Rattle.op_kind.proofs.Cases.{if_map, if_there, if_none, none_some, map_if, map_some, some_map, some_none}
use Rattle.op_kind.proofs.Looks.{Look, is_at, not_at}
use Rattle.op_sound.proofs.SoundParts.{opened_kind, opened_node, Fits, Parts, Split, is_kept, short_kept, open_kept, in_tree, in_whole, parts_sound, whole_of, whole_parts, whole_fits}
use Rattle.op_sound.proofs.SoundStamps.{Grows, known_kept, tree_known, shelf_known}
use Rattle.ws_elem.proofs.Cuts.{same_at}

-- ---- what an operation owes

-- the resources after an operation are parts of a whole tree, with old elements and fresh ones
pub record Keeps (Fresh : Element → Type 0) (r after : Resources) : Type 0 where
  pub whole : Tree
  pub fits : Fits (get whole)
  pub parts : Parts (get after.tree) (get after.shelf) (get whole)
  pub grows : Grows Fresh r after

pub kept_sound : (Fresh : Element → Type 0) (r after : Resources) → IsConsistent r → Keeps Fresh r after → IsConsistent after
kept_sound Fresh r after x k = parts_sound after k.whole k.fits k.parts
    (tree_known Fresh r after k.grows x.tree_known x.shelf_known) (shelf_known Fresh r after k.grows x.tree_known x.shelf_known)

pub kept_known : (Fresh : Element → Type 0) (r after : Resources) (t : Tree) → Keeps Fresh r after → IsKnown r t → IsKnown after t
kept_known Fresh r after t k = known_kept Fresh r after t k.grows

-- ---- causes

-- what is known where no cause holds
pub passed : (b : Bool) (r : OpRefusal) (rest : Option OpRefusal) → option_or (when b r) rest ≡ None → (b ≡ false) × (rest ≡ None)
passed true r rest h = cc
passed false r rest h = (refl, h)

pub is_there : (b : Bool) → not b ≡ false → b ≡ true
is_there true h = refl
is_there false h = absurd (never h)

pub is_away : (b : Bool) → not b ≡ true → b ≡ false
is_away true h = absurd (never (sym h))
is_away false h = refl

pub either : (a b : Bool) → (a || b) ≡ false → (a ≡ false) × (b ≡ false)
either false b h = (refl, h)
either true b h = absurd (never h)

pub none_there : (x : Option Element) → is_some x ≡ false → x ≡ None
none_there None h = refl
none_there (Some e) h = absurd (never h)

pub no_file_there : (x : Option Element) → is_some x ≡ true → has_file x ≡ false → IsSomeAnd x (λ e. e.kind ≢ File)
no_file_there None h g = absurd (never (sym h))
no_file_there (Some e) h g = λ file. never (sym (ap is_file file) ∙ g)

pub some_names : (p : Names) → is_root_path p ≡ false → p ≢ []
some_names p h e = never (sym (ap (λ n. n == 0) (ap length e)) ∙ h)

pub names_at_least : (p : Names) → 1 ≤ length p → p ≢ []
names_at_least [] h e = absurd (omega arith)
names_at_least (n ∷ p) h e = cc

-- ---- a place for what is to come

-- something may come to stand at p
pub record Place (a : Look) (p : Names) : Type 0 where
  pub below : p ≢ []
  pub shown : has_closed (a (project_of p)) ≡ false
  pub above : IsSomeAnd (a (parent p)) (λ e. e.kind ≢ File)
  pub absent : a p ≡ None

pub free_place : (t : Tree) (p : Names) (rs : List (Option OpRefusal)) → p ≢ [] → has_closed (get t (project_of p)) ≡ false
    → first_cause (when (not (contains_key t (parent p))) (NotFound (parent p))
    ∷ when (has_file (get t (parent p))) (NotContainer (parent p)) ∷ when (contains_key t p) (Exists p) ∷ rs) ≡ None
    → Place (get t) p
free_place t p rs below shown h =
    let a = passed (not (contains_key t (parent p))) (NotFound (parent p)) _ h in
    let b = passed (has_file (get t (parent p))) (NotContainer (parent p)) _ a.1 in
    let c = passed (contains_key t p) (Exists p) _ b.1 in
    record { below = below; shown = shown; above = no_file_there (get t (parent p)) (is_there (contains_key t (parent p)) a.0) b.0; absent = none_there (get t p) c.0 }

-- a path's parent is a member of no closed project where the path is none
pub parent_shown : (a : Look) (p : Names) → has_closed (a (project_of p)) ≡ false → is_kept a (parent p) ≡ false
parent_shown a [] h = short_kept a [] (omega arith)
parent_shown a (n ∷ []) h = short_kept a [] (omega arith)
parent_shown a (n ∷ m ∷ p) h = open_kept a (parent (n ∷ m ∷ p)) h

-- what is above the place in the whole tree
pub place_above : (a s f : Look) (p : Names) → Fits f → Parts a s f → Place a p → IsSomeAnd (f (parent p)) (λ e. e.kind ≢ File)
place_above a s f p w x at = subst (λ y. IsSomeAnd y (λ e. e.kind ≢ File)) (sym (in_tree a s f w x (parent p) (parent_shown a p at.shown)))
    (map_some opened (λ e. e.kind ≢ File) (a (parent p)) (some_map (λ e. e.kind ≢ File) (λ e. (opened e).kind ≢ File) (a (parent p)) (λ e h k. h (sym (opened_kind e) ∙ k)) at.above))

-- nothing is below what isn't there
pub nothing_below : (f : Look) → Fits f → (p : Names) → f p ≡ None → (q : Names) → is_prefix p q ≡ true → f q ≡ None
nothing_below f w p none q = by (length q) q (omega arith)
  where
    above : (q : Names) → q ≢ [] → f (parent q) ≡ None → f q ≡ None
    above q below h = if_none (f q) (if_map (λ _. IsSomeAnd (f (parent q)) (λ e. e.kind ≢ File)) (λ _. ⊥) (f q)
        (λ _ g. none_some (λ e. e.kind ≢ File) (f (parent q)) h g) (w.parents q below))

    some : (q : Names) → is_prefix p q ≡ true → (q ≡ p → ⊥) → q ≢ []
    some q h other e = other (e ∙ sym (root_above p (subst (λ z. is_prefix p z ≡ true) e h)))

    by : (n : ℕ) (q : Names) → length q ≤ n → is_prefix p q ≡ true → f q ≡ None
    by zero [] l h = ap f (sym (root_above p h)) ∙ none
    by zero (m ∷ q) l h = absurd (omega arith)
    by (suc n) q l h = at (is_at q p) refl (λ less other. by n (parent q) less (parent_below p q h other))
      where
        at : (b : Bool) → is_at q p ≡ b → (length (parent q) ≤ n → (q ≡ p → ⊥) → f (parent q) ≡ None) → f q ≡ None
        at true g rest = ap f (same_at q p g) ∙ none
        at false g rest =
            let below : q ≢ [] = some q h (not_at q p g) in
            let less : length (parent q) < length q = parent_shorter q below in
            above q below (rest (omega arith) (not_at q p g))

-- what is in the tree is in the whole one
pub none_in_tree : (a s f : Look) → Fits f → Parts a s f → (p : Names) → f p ≡ None → a p ≡ None
none_in_tree a s f w x p h = if_none (a p) (if_there (λ _. ⊥) (a p) (λ e g. some_none (opened e) (sym (in_whole a s f w x p e g) ∙ h)))

pub place_free : (a s f : Look) (p : Names) → Fits f → Parts a s f → Place a p → (q : Names) → is_prefix p q ≡ true → f q ≡ None
place_free a s f p w x at = nothing_below f w p (in_tree a s f w x p (open_kept a p at.shown) ∙ ap (option_map opened) at.absent)

-- the numbers of the whole tree are drawn, too
pub nodes_drawn : (r : Resources) (f : Look) → Fits f → Parts (get r.tree) (get r.shelf) f → AllDrawn r r.tree
    → AllDrawn r r.shelf
    → (q : Names) → IfSome (f q) (λ e. e.node < r.next_node)
nodes_drawn r f w x k l q = by (is_kept (get r.tree) q) (x q)
  where
    by : (b : Bool) → Split b (get r.tree q) (get r.shelf q) (f q) → IfSome (f q) (λ e. e.node < r.next_node)
    by true h = subst (λ y. IfSome y (λ e. e.node < r.next_node)) h.1 (if_map (IsDrawn r) (λ e. e.node < r.next_node) (get r.shelf q) (λ e d. d.node) (l q))
    by false h = subst (λ y. IfSome y (λ e. e.node < r.next_node)) h.1 (map_if opened (λ e. e.node < r.next_node) (get r.tree q)
        (if_map (IsDrawn r) (λ e. (opened e).node < r.next_node) (get r.tree q) (λ e d. subst (λ n. n < r.next_node) (sym (opened_node e)) d.node) (k q)))

-- ---- the same of sound resources

pub whole_above : (r : Resources) (x : IsConsistent r) (p : Names) → Place (get r.tree) p → IsSomeAnd (get (whole_of r x) (parent p)) (λ e. e.kind ≢ File)
whole_above r x p at = place_above (get r.tree) (get r.shelf) (get (whole_of r x)) p (whole_fits r x) (whole_parts r x) at

pub whole_free : (r : Resources) (x : IsConsistent r) (p : Names) → Place (get r.tree) p → (q : Names) → is_prefix p q ≡ true → get (whole_of r x) q ≡ None
whole_free r x p at = place_free (get r.tree) (get r.shelf) (get (whole_of r x)) p (whole_fits r x) (whole_parts r x) at

pub tree_free : (r : Resources) (x : IsConsistent r) (p : Names) → Place (get r.tree) p → (q : Names) → is_prefix p q ≡ true → get r.tree q ≡ None
tree_free r x p at q under = none_in_tree (get r.tree) (get r.shelf) (get (whole_of r x)) (whole_fits r x) (whole_parts r x) q (whole_free r x p at q under)

pub whole_nodes : (r : Resources) (x : IsConsistent r) (q : Names) → IfSome (get (whole_of r x) q) (λ e. e.node < r.next_node)
whole_nodes r x = nodes_drawn r (get (whole_of r x)) (whole_fits r x) (whole_parts r x) x.tree_known.drawn x.shelf_known.drawn
