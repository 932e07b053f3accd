-- Where a node moved from and to, by the paths that lose it and those that gain it.
use Rattle.std.proofs.Common.{◌≡◌, ℕ, Bool, true, false, cond, not, ◌&&◌, ◌||◌, List, [], ◌∷◌, map, refl, sym, ap, ◌∙◌, arith}
use Rattle.std.specs.Prelude.{Option, Some, None, find as find_path, ◌==◌}
use Rattle.std.specs.Option.{option_and_then}
use Rattle.std.specs.FinMap.{get, entries, keys, find, get-entries}
use Rattle.std.proofs.lemmas.Bool.Decides.{nat_tests}
use Rattle.res_path.specs.Paths.{Names, path_cmp, path_eq}
use Rattle.res_path.specs.PathLaws.{path_ties}
use Rattle.ws_elem.specs.declared.element.Element.{Element}
use Rattle.ws_elem.specs.Trees.{Tree}
use Rattle.ws_elem.proofs.Cuts.{same_at}
use Rattle.delta_kind.specs.Moves.{has_same_node, keeps_node, stands_at, moved}
use Rattle.delta_kind.specs.Rows.{lost, is_number, first_path}
use Rattle.delta_kind.proofs.Firsts.{passes, never, same_first}
use Rattle.delta_kind.proofs.Rising.{keys_rise}

-- the first path that has the node in t, and hasn't it in u
abbrev pub place_of : Tree → Tree → ℕ → Option Names
place_of t u n = first_path (λ e. is_number n (lost (Some e.1) (get u e.0))) (entries t)

-- ---- tests of paths are tests of entries

find_first : {X : Type 0} (test : Names → Bool) (es : List (Names × X)) → find_path test (map (λ e. e.0) es) ≡ first_path (λ e. test e.0) es
find_first test [] = refl
find_first test (e ∷ es) = ap (cond (test e.0) (Some e.0)) (find_first test es)

none_found : {X : Type 0} (test : Names × X → Bool) → ((e : Names × X) → test e ≡ false) → (es : List (Names × X)) → first_path test es ≡ None
none_found test h [] = refl
none_found test h (e ∷ es) = ap (λ b. cond b (Some e.0) (first_path test es)) (h e) ∙ none_found test h es

-- ---- one path

turned_round : (m n : ℕ) → (m == n) ≡ (n == m)
turned_round m n = grind (arith, nat_tests)

never_both : (a c : Bool) → (a && false && c) ≡ false
never_both true c = refl
never_both false c = refl

never_last : (a b : Bool) → (a && b && false) ≡ false
never_last true true = refl
never_last true false = refl
never_last false b = refl

other_one : (a m s : Bool) → (a ≡ true → m ≡ true → ⊥) → (not a && m && not s) ≡ cond s false m
other_one true true s h = absurd (h refl refl)
other_one true false true h = refl
other_one true false false h = refl
other_one false true true h = refl
other_one false true false h = refl
other_one false false true h = refl
other_one false false false h = refl

number_lost : (e f : Element) (y : Option Element) → cond (has_same_node (Some e) y) false (e.node == f.node) ≡ is_number f.node (lost (Some e) y)
number_lost e f None = refl
number_lost e f (Some g) = by (e.node == g.node)
  where
    by : (s : Bool) → cond s false (e.node == f.node) ≡ is_number f.node (cond s None (Some e.node))
    by true = refl
    by false = refl

none_there : (x : Option Element) → has_same_node x None ≡ false
none_there None = refl
none_there (Some e) = refl

lost_kept : (f : Element) (y : Option Element) → has_same_node y (Some f) ≡ true → lost (Some f) y ≡ None
lost_kept f None h = cc
lost_kept f (Some g) h = ap (λ s. cond s None (Some f.node)) (turned_round f.node g.node ∙ h)

lost_changed : (f : Element) (y : Option Element) → has_same_node y (Some f) ≡ false → lost (Some f) y ≡ Some f.node
lost_changed f None h = refl
lost_changed f (Some g) h = ap (λ s. cond s None (Some f.node)) (turned_round f.node g.node ∙ h)

-- a path whose node p has in u, where p has another in t
module _ (t u : Tree) (p : Names) (f : Element) (there : get u p ≡ Some f) (changes : keeps_node t u p ≡ false) where
  apart : (q : Names) (e : Element) → get t q ≡ Some e → path_eq q p ≡ true → (e.node == f.node) ≡ true → ⊥
  apart q e h tied same = never (
      sym same ∙ (λ i. has_same_node (sym h i) (sym there i))
      ∙ ap (λ r. has_same_node (get t r) (get u p)) (same_at q p (sym (path_ties q p) ∙ tied)) ∙ changes)

  stands_is : (q : Names) (x : Option Element) → get t q ≡ x
      → passes (λ (e : Names × Element). stands_at t u p e.0) q x ≡ passes (λ (e : Names × Element). is_number f.node (lost (Some e.1) (get u e.0))) q x
  stands_is q None h = refl
  stands_is q (Some e) h =
      (λ i. not (path_eq q p) && has_same_node (h i) (there i) && not (changes i || has_same_node (h i) (get u q)))
      ∙ other_one (path_eq q p) (e.node == f.node) (has_same_node (Some e) (get u q)) (apart q e h) ∙ number_lost e f (get u q)

-- where t has the node that u has at p: the first path that lost it, where p gained it
pub moved_is : (t u : Tree) (p : Names) → moved t u p ≡ option_and_then (place_of t u) (lost (get u p) (get t p))
moved_is t u p = find_first (stands_at t u p) (entries t) ∙ by (get u p) refl (keeps_node t u p) refl
  where
    by : (x : Option Element) → get u p ≡ x → (k : Bool) → keeps_node t u p ≡ k
        → first_path (λ (e : Names × Element). stands_at t u p e.0) (entries t) ≡ option_and_then (place_of t u) (lost x (get t p))
    by None h k g = none_found (λ (e : Names × Element). stands_at t u p e.0) (λ e.
        ap (λ b. not (path_eq e.0 p) && b && not (keeps_node t u p || keeps_node t u e.0)) (ap (has_same_node (get t e.0)) h ∙ none_there (get t e.0))
        ∙ never_both (not (path_eq e.0 p)) (not (keeps_node t u p || keeps_node t u e.0))) (entries t)
    by (Some f) h true g =
        none_found (λ (e : Names × Element). stands_at t u p e.0) (λ e.
        ap (λ b. not (path_eq e.0 p) && has_same_node (get t e.0) (get u p) && not (b || keeps_node t u e.0)) g
        ∙ never_last (not (path_eq e.0 p)) (has_same_node (get t e.0) (get u p))) (entries t)
        ∙ ap (option_and_then (place_of t u)) (sym (lost_kept f (get t p) (ap (has_same_node (get t p)) (sym h) ∙ g)))
    by (Some f) h false g =
        same_first (λ (e : Names × Element). stands_at t u p e.0) (λ (e : Names × Element). is_number f.node (lost (Some e.1) (get u e.0))) (entries t) (entries t)
        (keys_rise t) (keys_rise t) (λ q. stands_is t u p f h g q (find path_cmp q (entries t)) (get-entries t q))
        ∙ ap (option_and_then (place_of t u)) (sym (lost_changed f (get t p) (ap (has_same_node (get t p)) (sym h) ∙ g)))
