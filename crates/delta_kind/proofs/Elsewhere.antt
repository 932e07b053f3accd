-- In whole trees a delta tells just where each node was and is.
use Rattle.std.proofs.Common.{◌≡◌, ℕ, Bool, true, false, cond, List, [], ◌∷◌, map, refl, sym, ap, ◌∙◌, subst, rules}
use Rattle.std.specs.Prelude.{◌≢◌, Option, Some, None, IfSome, IsSomeAnd, ◌==◌}
use Rattle.std.specs.Option.{option_and_then}
use Rattle.std.specs.FinMap.{get, entries, find, get-entries}
use Rattle.res_path.specs.Paths.{Names, path_cmp}
use Rattle.ws_elem.specs.declared.element.Element.{Element}
use Rattle.ws_elem.specs.Trees.{Tree, Whole}
use Rattle.delta_kind.specs.Rows.{lost, is_number}
use Rattle.delta_kind.proofs.Turns.{place_of, moved_is}
use Rattle.delta_kind.specs.Moves.{moved, SameNode, TellsPlace}
use Rattle.delta_kind.specs.Deltas.{node_at, changed, with_above, delta, TellsMoves}
use Rattle.delta_kind.proofs.Firsts.{passes, first_passes, none_passes, never}
use Rattle.delta_kind.proofs.Rising.{keys_rise}

-- the entry is there, and has the node
abbrev HasNode : ℕ → Option Element → Type 0
HasNode n x = IsSomeAnd x (λ e. e.node ≡ n)

equal_itself : (n : ℕ) → (n == n) ≡ true
equal_itself n = search rules

same_number : (m n : ℕ) → (m == n) ≡ true → m ≡ n
same_number m n h = search (rules, h)

some_number : {m n : ℕ} → Some m ≡ Some n → m ≡ n
some_number h = cc

-- ---- what is lost

lost_is : (x y : Option Element) (n : ℕ) → lost x y ≡ Some n → HasNode n x × (HasNode n y → ⊥)
lost_is None y n h = cc
lost_is (Some a) None n h = (some_number h, λ g. g)
lost_is (Some a) (Some b) n h = by (a.node == b.node) refl h
  where
    by : (s : Bool) → (a.node == b.node) ≡ s → cond s None (Some a.node) ≡ Some n → HasNode n (Some a) × (HasNode n (Some b) → ⊥)
    by true e i = cc
    by false e i = (some_number i, λ g. never (sym (equal_itself a.node) ∙ ap (λ k. a.node == k) (some_number i ∙ sym g) ∙ e))

lost_of : (x y : Option Element) (n : ℕ) → HasNode n x → (HasNode n y → ⊥) → lost x y ≡ Some n
lost_of None y n h g = absurd h
lost_of (Some a) None n h g = ap (λ k. Some k) h
lost_of (Some a) (Some b) n h g = by (a.node == b.node) refl
  where
    by : (s : Bool) → (a.node == b.node) ≡ s → cond s None (Some a.node) ≡ Some n
    by true e = absurd (g (sym (same_number a.node b.node e) ∙ h))
    by false e = ap (λ k. Some k) h

number_is : (n : ℕ) (x : Option ℕ) → is_number n x ≡ true → x ≡ Some n
number_is n None h = cc
number_is n (Some m) h = ap (λ k. Some k) (same_number m n h)

-- ---- the first path that loses a node

module _ (t u : Tree) (n : ℕ) where
  abbrev test : Names × Element → Bool
  test e = is_number n (lost (Some e.1) (get u e.0))

  pub place_loses : (q : Names) → place_of t u n ≡ Some q → lost (get t q) (get u q) ≡ Some n
  place_loses q h = ap (λ x. lost x (get u q)) (get-entries t q) ∙ by (find path_cmp q (entries t)) (first_passes test None (entries t) q (keys_rise t) h)
    where
      by : (x : Option Element) → passes test q x ≡ true → lost x (get u q) ≡ Some n
      by None i = cc
      by (Some e) i = number_is n (lost (Some e) (get u q)) i

  pub place_found : (q : Names) → lost (get t q) (get u q) ≡ Some n → place_of t u n ≡ None → ⊥
  place_found q h none = never (sym (by (find path_cmp q (entries t)) (ap (λ x. lost x (get u q)) (sym (get-entries t q)) ∙ h)) ∙ none_passes test (entries t) q none)
    where
      by : (x : Option Element) → lost x (get u q) ≡ Some n → passes test q x ≡ true
      by None i = cc
      by (Some e) i = ap (is_number n) i ∙ equal_itself n

-- ---- where a node is elsewhere

same_node : (n : ℕ) (x y : Option Element) → HasNode n x → HasNode n y → SameNode x y
same_node n None y h g = h
same_node n (Some e) None h g = g
same_node n (Some e) (Some f) h g = h ∙ sym g

told_there : (t u : Tree) (p q : Names) → moved t u p ≡ Some q → (q ≢ p) × SameNode (get t q) (get u p)
told_there t u p q h = by (lost (get u p) (get t p)) refl (sym (moved_is t u p) ∙ h)
  where
    by : (x : Option ℕ) → lost (get u p) (get t p) ≡ x → option_and_then (place_of t u) x ≡ Some q → (q ≢ p) × SameNode (get t q) (get u p)
    by None i j = cc
    by (Some n) i j =
        let here = lost_is (get u p) (get t p) n i in
        let there = lost_is (get t q) (get u q) n (place_loses t u n q j) in
        (λ same. here.1 (subst (λ r. HasNode n (get t r)) same there.0), same_node n (get t q) (get u p) there.0 here.0)

-- node numbers differ
unique : (t : Tree) → Whole t → (n : ℕ) (p q : Names) → HasNode n (get t p) → HasNode n (get t q) → p ≡ q
unique t w n p q h g = by (get t p) (get t q) h g (w.nodes p q)
  where
    by : (x y : Option Element) → HasNode n x → HasNode n y → IfSome x (λ e. IfSome y (λ f. e.node ≡ f.node → p ≡ q)) → p ≡ q
    by None y h g w = absurd h
    by (Some e) None h g w = absurd g
    by (Some e) (Some f) h g w = w (h ∙ sym g)

there_told : (t u : Tree) → Whole t → Whole u → (p q : Names) → q ≢ p → SameNode (get t q) (get u p) → moved t u p ≡ Some q
there_told t u wt wu p q apart same = by (get t q) refl (get u p) refl same
  where
    found : (n : ℕ) → HasNode n (get t q) → (r : Option Names) → place_of t u n ≡ r → lost (get t q) (get u q) ≡ Some n → r ≡ Some q
    found n h None i lose = absurd (place_found t u n q lose i)
    found n h (Some r) i lose = ap (λ s. Some s) (unique t wt n r q (lost_is (get t r) (get u r) n (place_loses t u n r i)).0 h)

    at : (n : ℕ) → HasNode n (get t q) → HasNode n (get u p) → moved t u p ≡ Some q
    at n h g =
        moved_is t u p
        ∙ ap (option_and_then (place_of t u)) (lost_of (get u p) (get t p) n g (λ k. apart (unique t wt n q p h k)))
        ∙ found n h (place_of t u n) refl (lost_of (get t q) (get u q) n h (λ k. apart (unique u wu n q p k g)))

    by : (x : Option Element) → get t q ≡ x → (y : Option Element) → get u p ≡ y → SameNode x y → moved t u p ≡ Some q
    by None i y j s = absurd s
    by (Some e) i None j s = absurd s
    by (Some e) i (Some f) j s = at f.node (subst (HasNode f.node) (sym i) s) (subst (HasNode f.node) (sym j) refl)

tells_place : (t u : Tree) → Whole t → Whole u → (p : Names) → TellsPlace t u p (moved t u p)
tells_place t u wt wu p q = (told_there t u p q, λ h. there_told t u wt wu p q h.0 h.1)

pub tells_moves : (a b : Tree) → Whole a → Whole b → TellsMoves a b (delta a b)
tells_moves a b wa wb = all (with_above (changed a b))
  where
    all : (ps : List Names) → TellsMoves a b (map (node_at a b) ps)
    all [] = tt
    all (p ∷ ps) = ((tells_place a b wa wb p, tells_place b a wb wa p), all ps)
