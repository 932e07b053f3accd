-- Parts of nodes in path order.
use Rattle.std.proofs.Common.{◌≡◌, ◌↔◌, ℕ, ◌+◌, ◌<◌, Bool, true, false, cond, ◌||◌, List, [], ◌∷◌, ◌++◌, length, take, drop, get_or, refl, sym, ap, ◌∙◌, append_assoc, length-append, arith}
use Rattle.std.specs.Prelude.{Option, Some, None, filter}
use Rattle.std.specs.declared.cmp.Ordering.TheVariants.{Less, Equal, Greater}
use Rattle.std.specs.List.{AllByRecursion, list_any}
use Rattle.std.specs.Option.{option_or}
use Rattle.std.specs.Ordering.{eq_by_cmp, is_eq, ordering_reverse}
use Rattle.std.proofs.lemmas.List.Folds.{find-append}
use Rattle.std.proofs.lemmas.List.{take-append-drop, drop_more}
use Rattle.res_path.specs.Paths.{Names, path_cmp, path_eq, is_prefix}
use Rattle.res_path.specs.PathLaws.{path_cmp_total, path_ties}
use Rattle.res_path.proofs.Prefixes.{path_cmp_exact}
use Rattle.delta_kind.specs.declared.node.DeltaNode.{DeltaNode}
use Rattle.delta_kind.specs.Deltas.{node_with, cut, InPathOrder, paths_of}
use Rattle.delta_kind.proofs.Rising.{Rises, all_over, rises_lower, rises_sorted, sorted_rises}

-- ---- they rise

front_rises : (l : Option Names) (lower rest : List DeltaNode) → Rises l (paths_of (lower ++ rest)) → Rises l (paths_of lower)
front_rises l [] rest h = tt
front_rises l (x ∷ lower) rest h = (h.0, front_rises (Some x.path) lower rest h.1)

back_rises : (l : Option Names) (lower : List DeltaNode) (node : DeltaNode) (higher : List DeltaNode) → Rises l (paths_of (lower ++ node ∷ higher)) → Rises (Some node.path) (paths_of higher)
back_rises l [] node higher h = h.1
back_rises l (x ∷ lower) node higher h = back_rises (Some x.path) lower node higher h.1

kept_rises : (f : DeltaNode → Bool) (l : Option Names) (nodes : List DeltaNode) → Rises l (paths_of nodes) → Rises l (paths_of (filter f nodes))
kept_rises f l [] h = tt
kept_rises f l (node ∷ nodes) h = by (f node) (kept_rises f (Some node.path) nodes h.1)
  where
    by : (b : Bool) → Rises (Some node.path) (paths_of (filter f nodes)) → Rises l (paths_of (cond b (node ∷ filter f nodes) (filter f nodes)))
    by true rest = (h.0, rest)
    by false rest = rises_lower l node.path (paths_of (filter f nodes)) h.0 rest

pub lower_order : (lower : List DeltaNode) (node : DeltaNode) (higher : List DeltaNode) → InPathOrder (paths_of (lower ++ node ∷ higher)) → InPathOrder (paths_of lower)
lower_order lower node higher h = rises_sorted None (paths_of lower) (front_rises None lower (node ∷ higher) (sorted_rises (paths_of (lower ++ node ∷ higher)) h))

pub higher_order : (lower : List DeltaNode) (node : DeltaNode) (higher : List DeltaNode) → InPathOrder (paths_of (lower ++ node ∷ higher)) → InPathOrder (paths_of higher)
higher_order lower node higher h = rises_sorted (Some node.path) (paths_of higher) (back_rises None lower node higher (sorted_rises (paths_of (lower ++ node ∷ higher)) h))

pub kept_order : (f : DeltaNode → Bool) (nodes : List DeltaNode) → InPathOrder (paths_of nodes) → InPathOrder (paths_of (filter f nodes))
kept_order f nodes h = rises_sorted None (paths_of (filter f nodes)) (kept_rises f None nodes (sorted_rises (paths_of nodes) h))

-- ---- which of them has a path

here : (P : Names → Type 0) (lower : List DeltaNode) (node : DeltaNode) (higher : List DeltaNode) → AllByRecursion P (paths_of (lower ++ node ∷ higher)) → P node.path
here P [] node higher h = h.0
here P (x ∷ lower) node higher h = here P lower node higher h.1

all_below : (l : Option Names) (lower : List DeltaNode) (node : DeltaNode) (higher : List DeltaNode) → Rises l (paths_of (lower ++ node ∷ higher)) → AllByRecursion (λ q. path_cmp q node.path ≡ Less) (paths_of lower)
all_below l [] node higher h = tt
all_below l (x ∷ lower) node higher h =
    (here (λ q. path_cmp x.path q ≡ Less) lower node higher (all_over x.path (paths_of (lower ++ node ∷ higher)) h.1), all_below (Some x.path) lower node higher h.1)

-- a path that is none of these has no node
none_with : (p : Names) (nodes : List DeltaNode) → AllByRecursion (λ q. eq_by_cmp path_cmp p q ≡ false) (paths_of nodes) → node_with p nodes ≡ None
none_with p [] h = refl
none_with p (node ∷ nodes) h = ap (λ b. cond b (Some node) (node_with p nodes)) (path_ties p node.path ∙ h.0) ∙ none_with p nodes h.1

turned_round : (p q : Names) → path_cmp p q ≡ Greater → path_cmp q p ≡ Less
turned_round p q h = path_cmp_total.antisymm q p ∙ ap ordering_reverse h

past : (p q : Names) → path_cmp q p ≡ Less → eq_by_cmp path_cmp p q ≡ false
past p q h = ap is_eq (path_cmp_total.antisymm p q ∙ ap ordering_reverse h)

all_past : (p q : Names) (ps : List Names) → path_cmp q p ≡ Less → AllByRecursion (λ r. path_cmp r q ≡ Less) ps → AllByRecursion (λ r. eq_by_cmp path_cmp p r ≡ false) ps
all_past p q [] less h = tt
all_past p q (r ∷ ps) less h = (past p r (path_cmp_total.trans r q p h.0 less), all_past p q ps less h.1)

all_ahead : (p q : Names) (ps : List Names) → path_cmp p q ≡ Less → AllByRecursion (λ r. path_cmp q r ≡ Less) ps → AllByRecursion (λ r. eq_by_cmp path_cmp p r ≡ false) ps
all_ahead p q [] less h = tt
all_ahead p q (r ∷ ps) less h = (ap is_eq (path_cmp_total.trans p q r less h.0), all_ahead p q ps less h.1)

or_none : (x : Option DeltaNode) → option_or x None ≡ x
or_none None = refl
or_none (Some node) = refl

module _ (p : Names) (lower : List DeltaNode) (node : DeltaNode) (higher : List DeltaNode) (order : InPathOrder (paths_of (lower ++ node ∷ higher))) where
  up : Rises None (paths_of (lower ++ node ∷ higher))
  up = sorted_rises (paths_of (lower ++ node ∷ higher)) order

  split : node_with p (lower ++ node ∷ higher) ≡ option_or (node_with p lower) (node_with p (node ∷ higher))
  split = find-append (λ node. path_eq p node.path) lower (node ∷ higher)

  pub found_lower : path_cmp p node.path ≡ Less → node_with p (lower ++ node ∷ higher) ≡ node_with p lower
  found_lower less =
      split ∙ ap (option_or (node_with p lower))
      (none_with p (node ∷ higher) (ap is_eq less, all_ahead p node.path (paths_of higher) less (all_over node.path (paths_of higher) (back_rises None lower node higher up))))
      ∙ or_none (node_with p lower)

  pub found_higher : path_cmp p node.path ≡ Greater → node_with p (lower ++ node ∷ higher) ≡ node_with p higher
  found_higher more =
      split ∙ ap (λ x. option_or x (node_with p (node ∷ higher)))
      (none_with p lower (all_past p node.path (paths_of lower) (turned_round p node.path more) (all_below None lower node higher up)))
      ∙ ap (λ b. cond b (Some node) (node_with p higher)) (path_ties p node.path ∙ ap is_eq more)

  pub found_here : path_cmp p node.path ≡ Equal → node_with p (lower ++ node ∷ higher) ≡ Some node
  found_here same =
      split ∙ ap (λ x. option_or x (node_with p (node ∷ higher)))
      (none_with p lower (none_tied (paths_of lower) (all_below None lower node higher up)))
      ∙ ap (λ b. cond b (Some node) (node_with p higher)) (path_ties p node.path ∙ ap is_eq same)
    where
      none_tied : (ps : List Names) → AllByRecursion (λ r. path_cmp r node.path ≡ Less) ps → AllByRecursion (λ r. eq_by_cmp path_cmp p r ≡ false) ps
      none_tied [] h = tt
      none_tied (r ∷ ps) h = (past p r (ap (path_cmp r) (path_cmp_exact p node.path same) ∙ h.0), none_tied ps h.1)

-- where no node is found, no path is this one
pub none_found : (p : Names) (nodes : List DeltaNode) → (node_with p nodes ≡ None) ↔ (list_any (path_eq p) (paths_of nodes) ≡ false)
none_found p [] = (λ h. refl, λ h. refl)
none_found p (node ∷ nodes) = by (path_eq p node.path) (none_found p nodes)
  where
    by : (b : Bool) → (node_with p nodes ≡ None) ↔ (list_any (path_eq p) (paths_of nodes) ≡ false)
        → (cond b (Some node) (node_with p nodes) ≡ None) ↔ ((b || list_any (path_eq p) (paths_of nodes)) ≡ false)
    by true h = (λ i. cc, λ i. cc)
    by false h = h

-- ---- the nodes at or below some paths

-- one node more
pub cut_more : (ps : List Names) (nodes kept next : List DeltaNode) (i : ℕ) (node : DeltaNode) → i < length nodes → node ≡ get_or nodes i node
    → kept ++ cut ps (drop i nodes) ≡ cut ps nodes → next ≡ kept ++ cut ps (node ∷ []) → next ++ cut ps (drop (i + 1) nodes) ≡ cut ps nodes
cut_more ps nodes kept next i node within is before more =
    ap (λ x. x ++ cut ps (drop (i + 1) nodes)) more
    ∙ append_assoc kept (cut ps (node ∷ [])) (cut ps (drop (i + 1) nodes))
    ∙ ap (λ x. kept ++ x) (by (list_any (λ prefix. is_prefix prefix node.path) ps))
    ∙ ap (λ x. kept ++ cut ps x) (ap (λ n. n ∷ drop (i + 1) nodes) is ∙ sym (drop_more nodes i node within))
    ∙ before
  where
    by : (b : Bool) → cond b (node ∷ []) [] ++ cut ps (drop (i + 1) nodes) ≡ cond b (node ∷ cut ps (drop (i + 1) nodes)) (cut ps (drop (i + 1) nodes))
    by true = refl
    by false = refl

-- ---- the halves of some nodes

-- the nodes before one, it, and those after it
pub joined : (nodes lower rest : List DeltaNode) (i : ℕ) (node : DeltaNode) (higher : List DeltaNode) → lower ≡ take i nodes → rest ≡ drop i nodes → rest ≡ node ∷ higher
    → nodes ≡ lower ++ node ∷ higher
joined nodes lower rest i node higher front back first = sym (take-append-drop i nodes) ∙ (λ j. sym front j ++ (sym back ∙ first) j)

pub smaller : (nodes lower : List DeltaNode) (node : DeltaNode) (higher : List DeltaNode) → nodes ≡ lower ++ node ∷ higher → (length lower < length nodes) × (length higher < length nodes)
smaller nodes lower node higher h = let all : length nodes ≡ length lower + length (node ∷ higher) = ap length h ∙ length-append lower (node ∷ higher) in (omega arith, omega arith)
