-- What is told of two trees as if nothing moved, and is all where nothing did.
use Rattle.std.proofs.Common.{◌≡◌, ℕ, Bool, true, false, ◌&&◌, ◌||◌, cond, List, [], ◌∷◌, ◌++◌, map, refl, sym, ap, ◌∙◌, subst, append-nil, append_assoc}
use Rattle.std.specs.Prelude.{Option, Some, None, filter, is_some}
use Rattle.std.specs.FinMap.{get-empty}
use Rattle.std.specs.List.{AllByRecursion}
use Rattle.std.specs.Option.{option_and_then}
use Rattle.std.specs.Ordering.{nat_cmp}
use Rattle.res_path.specs.Paths.{Names}
use Rattle.ws_elem.specs.Trees.{Tree}
use Rattle.delta_kind.specs.declared.node.DeltaNode.{DeltaNode}
use Rattle.delta_kind.specs.declared.row.Turn.TheVariants.{Lost, Gained}
use Rattle.delta_kind.specs.Deltas.{node_of, delta, InPathOrder, paths_of}
use Rattle.delta_kind.specs.Rows.{Rows, Sides, row_paths, turned, place_in, node_by}
use Rattle.delta_kind.specs.Inside.Passes.{has_turn, new_above, untouched, unmoved, nodes_from}
use Rattle.delta_kind.proofs.Merged.{row_differs, rows_between, between_rises, between_found}
use Rattle.delta_kind.proofs.Rising.{rises_sorted}
use Rattle.delta_kind.proofs.Same.{rows_delta}
use Rattle.delta_kind.proofs.Table.{nowhere, nothing_gained, nothing_lost, pass_same}
use Rattle.delta_kind.proofs.Told.{pass_is, pass_rises}

-- what was told of some rows, those that are left, and whether nodes were lost and gained
pub record Telling (all : Rows) (nodes : List DeltaNode) (last : Option Names) (lost gained : Bool) (left : Rows) : Type 0 where
  pub told : nodes ++ nodes_from unmoved last left ≡ nodes_from unmoved None all
  pub loses : (lost || has_turn Lost left) ≡ has_turn Lost all
  pub gains : (gained || has_turn Gained left) ≡ has_turn Gained all
  pub one : (lost && gained) ≡ false

pub telling_begins : (all : Rows) → Telling all [] None false false all
telling_begins all = record { told = refl; loses = refl; gains = refl; one = refl }

or_assoc : (a b c : Bool) → ((a || b) || c) ≡ (a || (b || c))
or_assoc true b c = refl
or_assoc false b c = refl

-- a row that is told
telling_next : (all : Rows) (nodes new : List DeltaNode) (last next : Option Names) (lost gained lost2 gained2 : Bool) (row : Names × Sides) (left : Rows)
    → Telling all nodes last lost gained (row ∷ left) → new ≡ (nodes ++ map untouched (new_above last row.0)) ++ unmoved row.0 row.1 ∷ [] → next ≡ Some row.0
    → lost2 ≡ (lost || is_some (turned Lost row.1)) → gained2 ≡ (gained || is_some (turned Gained row.1)) → (lost2 && gained2) ≡ false
    → Telling all new next lost2 gained2 left
telling_next all nodes new last next lost gained lost2 gained2 row left h made at loses gains one = record {
  told =
      (λ i. made i ++ nodes_from unmoved (at i) left)
      ∙ append_assoc (nodes ++ map untouched (new_above last row.0)) (unmoved row.0 row.1 ∷ []) (nodes_from unmoved (Some row.0) left)
      ∙ append_assoc nodes (map untouched (new_above last row.0)) (unmoved row.0 row.1 ∷ nodes_from unmoved (Some row.0) left)
      ∙ h.told;
  loses = ap (λ b. b || has_turn Lost left) loses ∙ or_assoc lost (is_some (turned Lost row.1)) (has_turn Lost left) ∙ h.loses;
  gains = ap (λ b. b || has_turn Gained left) gains ∙ or_assoc gained (is_some (turned Gained row.1)) (has_turn Gained left) ∙ h.gains;
  one = one;
}

-- of the rows of a walk, one that differs
pub telling_row : (all : Rows) (nodes new : List DeltaNode) (last next : Option Names) (lost gained lost2 gained2 : Bool) (row : Names × Sides) (rest : Rows) (walk : Rows)
    → walk ≡ row ∷ rest → row_differs row ≡ true
    → Telling all nodes last lost gained (filter row_differs walk) → new ≡ (nodes ++ map untouched (new_above last row.0)) ++ unmoved row.0 row.1 ∷ [] → next ≡ Some row.0
    → lost2 ≡ (lost || is_some (turned Lost row.1)) → gained2 ≡ (gained || is_some (turned Gained row.1)) → (lost2 && gained2) ≡ false
    → Telling all new next lost2 gained2 (filter row_differs rest)
telling_row all nodes new last next lost gained lost2 gained2 row rest walk is differs h made at loses gains one =
    telling_next all nodes new last next lost gained lost2 gained2 row (filter row_differs rest)
    (subst (Telling all nodes last lost gained) (ap (filter row_differs) is ∙ ap (λ b. cond b (row ∷ filter row_differs rest) (filter row_differs rest)) differs) h)
    made at loses gains one

-- and one that doesn't
pub telling_on : (all : Rows) (nodes : List DeltaNode) (last : Option Names) (lost gained : Bool) (row : Names × Sides) (rest : Rows) (walk : Rows)
    → walk ≡ row ∷ rest → row_differs row ≡ false → Telling all nodes last lost gained (filter row_differs walk) → Telling all nodes last lost gained (filter row_differs rest)
telling_on all nodes last lost gained row rest walk is differs h =
    subst (Telling all nodes last lost gained) (ap (filter row_differs) is ∙ ap (λ b. cond b (row ∷ filter row_differs rest) (filter row_differs rest)) differs) h

-- a row after which something lost a node and something gained one
both : (a b : Bool) → (a && b) ≡ true → (a ≡ true) × (b ≡ true)
both true b h = (refl, h)
both false b h = cc

pub telling_moved : (all : Rows) (nodes : List DeltaNode) (last : Option Names) (lost gained lost2 gained2 : Bool) (row : Names × Sides) (rest : Rows) (walk : Rows)
    → walk ≡ row ∷ rest → row_differs row ≡ true → Telling all nodes last lost gained (filter row_differs walk)
    → lost2 ≡ (lost || is_some (turned Lost row.1)) → gained2 ≡ (gained || is_some (turned Gained row.1)) → (lost2 && gained2) ≡ true
    → (has_turn Lost all ≡ true) × (has_turn Gained all ≡ true)
telling_moved all nodes last lost gained lost2 gained2 row rest walk is differs h loses gains two =
    let here = subst (Telling all nodes last lost gained) (ap (filter row_differs) is ∙ ap (λ b. cond b (row ∷ filter row_differs rest) (filter row_differs rest)) differs) h in
    let parts = both lost2 gained2 two in (
      sym here.loses ∙ sym (or_assoc lost (is_some (turned Lost row.1)) (has_turn Lost (filter row_differs rest))) ∙ ap (λ b. b || has_turn Lost (filter row_differs rest)) (sym loses ∙ parts.0),
      sym here.gains ∙ sym (or_assoc gained (is_some (turned Gained row.1)) (has_turn Gained (filter row_differs rest))) ∙ ap (λ b. b || has_turn Gained (filter row_differs rest)) (sym gains ∙ parts.1),
    )

-- ---- at the end

and_then_nowhere : (x : Option ℕ) → option_and_then nowhere x ≡ None
and_then_nowhere None = refl
and_then_nowhere (Some n) = get-empty nat_cmp n

unmoved_is : (p : Names) (s : Sides) → unmoved p s ≡ node_by nowhere nowhere p s
unmoved_is p s = λ i. node_of p s.0 s.1 (sym (and_then_nowhere (turned Gained s)) i) (sym (and_then_nowhere (turned Lost s)) i)

all_unmoved : (f : Names → Sides → DeltaNode) (rows : Rows) → AllByRecursion (λ row. node_by nowhere nowhere row.0 row.1 ≡ f row.0 row.1) rows → AllByRecursion (λ row. unmoved row.0 row.1 ≡ f row.0 row.1) rows
all_unmoved f [] h = tt
all_unmoved f (row ∷ rows) h = (unmoved_is row.0 row.1 ∙ h.0, all_unmoved f rows h.1)

or_false : (a : Bool) → (a || false) ≡ a
or_false true = refl
or_false false = refl

nothing_moved : (all : Rows) (lost gained : Bool) → lost ≡ has_turn Lost all → gained ≡ has_turn Gained all → (lost && gained) ≡ false
    → AllByRecursion (λ row. unmoved row.0 row.1 ≡ node_by (place_in Lost all) (place_in Gained all) row.0 row.1) all
nothing_moved all false gained l g one = all_unmoved (node_by (place_in Lost all) (place_in Gained all)) all (nothing_lost all (sym l))
nothing_moved all true false l g one = all_unmoved (node_by (place_in Lost all) (place_in Gained all)) all (nothing_gained all (sym g))
nothing_moved all true true l g one = cc

told_all : (all : Rows) (nodes : List DeltaNode) (last : Option Names) (lost gained : Bool) → Telling all nodes last lost gained []
    → nodes ≡ nodes_from (node_by (place_in Lost all) (place_in Gained all)) None all
told_all all nodes last lost gained h =
    sym (append-nil nodes) ∙ h.told
    ∙ pass_same unmoved (node_by (place_in Lost all) (place_in Gained all)) None all
    (nothing_moved all lost gained (sym (or_false lost) ∙ h.loses) (sym (or_false gained) ∙ h.gains) h.one)

-- the rows of two trees rise
order : (a b : Tree) → InPathOrder (row_paths (rows_between a b))
order a b = rises_sorted None (row_paths (rows_between a b)) (between_rises a b)

pub telling_ends : (a b : Tree) (nodes : List DeltaNode) (last : Option Names) (lost gained : Bool) (walk : Rows) → walk ≡ []
    → Telling (rows_between a b) nodes last lost gained (filter row_differs walk) → (nodes ≡ delta a b) × InPathOrder (paths_of nodes)
telling_ends a b nodes last lost gained walk is h =
    let all = told_all (rows_between a b) nodes last lost gained (subst (λ rows. Telling (rows_between a b) nodes last lost gained (filter row_differs rows)) is h) in (
      all ∙ pass_is (rows_between a b) (order a b) ∙ rows_delta a b (rows_between a b) (between_found a b) (order a b),
      subst (λ ns. InPathOrder (paths_of ns)) (sym all) (pass_rises (place_in Lost (rows_between a b)) (place_in Gained (rows_between a b)) (rows_between a b) (order a b)),
    )
