-- The trees of marks where one mark is made.
use Rattle.std.proofs.Common.{◌≡◌, ◌≢◌, ℕ, rules, Bool, true, false, nat_eq, if◌then◌else◌, List, [], ◌∷◌, ◌++◌, refl, ap, ◌∙◌, subst}
use Rattle.std.specs.Prelude.{Option, Some, None, Result, Ok, Err, IfSome, IfOk}
use Rattle.std.specs.FinMap.{empty}
use Rattle.ws_elem.specs.Trees.{Tree}
use Rattle.elem_tree.specs.Layers.{Layer, LayeredTree, from_mark, tree_at, tree_of_first}

same_number : (n k : ℕ) → nat_eq n k ≡ true → n ≡ k
same_number n k h = search (rules, h)

unequal : (n k : ℕ) → n ≢ k → (b : Bool) → nat_eq n k ≡ b → b ≡ false
unequal n k h true e = absurd (h (same_number n k e))
unequal n k h false e = refl

-- where no layer is the mark's, none is with one more that is another's
none_more : (m : ℕ) (l : Layer) → m ≢ l.mark → (ls : List Layer) → from_mark m ls ≡ [] → from_mark m (ls ++ l ∷ []) ≡ []
none_more m l other [] none = ap (λ b. if b then l ∷ [] else []) (unequal m l.mark other (nat_eq m l.mark) refl)
none_more m l other (k ∷ ls) none = by (nat_eq m k.mark) none (none_more m l other ls)
  where
    by : (b : Bool) → (if b then k ∷ ls else from_mark m ls) ≡ [] → (from_mark m ls ≡ [] → from_mark m (ls ++ l ∷ []) ≡ [])
        → (if b then k ∷ ls ++ l ∷ [] else from_mark m (ls ++ l ∷ [])) ≡ []
    by true none h = absurd (no none)
      where
        no : k ∷ ls ≡ [] → ⊥
        no e = cc
    by false none h = h none

first_none : (t : Tree) (ls : List Layer) → tree_of_first t ls ≡ None → ls ≡ []
first_none t [] e = refl
first_none t (l ∷ ls) e = cc

-- one mark more: every other keeps its tree, or has none
others_kept : (t : Tree) (l : Layer) (ls : List Layer) (m : ℕ) → m ≢ l.mark
    → IfSome (tree_of_first t (from_mark m ls)) (λ u. tree_of_first t (from_mark m (ls ++ l ∷ [])) ≡ Some u)
    → tree_of_first t (from_mark m (ls ++ l ∷ [])) ≡ tree_of_first t (from_mark m ls)
others_kept t l ls m other = by (tree_of_first t (from_mark m ls)) refl
  where
    by : (x : Option Tree) → tree_of_first t (from_mark m ls) ≡ x → IfSome x (λ u. tree_of_first t (from_mark m (ls ++ l ∷ [])) ≡ Some u)
        → tree_of_first t (from_mark m (ls ++ l ∷ [])) ≡ x
    by None e h = ap (tree_of_first t) (none_more m l other ls (first_none t (from_mark m ls) e))
    by (Some u) e h = h

-- so it is where a mark was made
pub others_stay : {E : Type 0} (old new : LayeredTree) → ((m : ℕ) → IfSome (tree_at old m) (λ t. tree_at new m ≡ Some t))
    → (r : Result ℕ E) → IfOk r (λ mark. new ≡ record old { layers = old.layers ++ record { mark = mark; befores = empty } ∷ [] })
    → IfOk r (λ mark. (k : ℕ) → k ≢ mark → tree_at new k ≡ tree_at old k)
others_stay old new kept (Err e) is = tt
others_stay old new kept (Ok mark) is = λ k other.
    ap (λ (v : LayeredTree). tree_at v k) is
    ∙ others_kept old.map (record { mark = mark; befores = empty }) old.layers k other (subst (λ (v : LayeredTree). IfSome (tree_at old k) (λ t. tree_at v k ≡ Some t)) is (kept k))
