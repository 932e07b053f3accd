-- What a turn leaves.
use Rattle.std.proofs.Common.{◌≡◌, ℕ, List, [], ◌∷◌, ◌++◌, refl, sym, ap, ◌∙◌, subst, inl, inr, append-nil, eq-eqb, if◌then◌else◌}
use Rattle.std.specs.Prelude.{Option, Some}
use Rattle.ws_turn.specs.Lists.{of, numbers, put_before}
use Rattle.ws_turn.specs.Passes.{Known, IsNext}
use Rattle.ws_turn.proofs.Lists.{none_some, some_same}
use Rattle.pass_turns.specs.Adds.{AddsUpToOne}

pub same_in : {B : Type 0} (o : Option B) (a b : B) → o ≡ Some a → o ≡ Some b → a ≡ b
same_in o a b e f = some_same a b (sym e ∙ f)

module _ {E : Type 0} (by : E → ℕ) (gives : E → Option ℕ) where
  pub adds_own : (n : ℕ) (more : List E) → AddsUpToOne by gives n more → of by n more ≡ more
  adds_own n more (inl none) = subst (λ l. of by n l ≡ l) (sym none) refl
  adds_own n more (inr one) = subst (λ l. of by n l ≡ l) (sym one.1) (ap (λ b. if b then one.0 ∷ [] else []) (eq-eqb (by one.0) n one.2))

  pub adds_no_number : (n : ℕ) (more : List E) → AddsUpToOne by gives n more → numbers gives more ≡ []
  adds_no_number n more (inl none) = ap (numbers gives) none
  adds_no_number n more (inr one) = ap (numbers gives) one.1 ∙ ap (λ o. put_before o []) one.3

  pub is_next : (k : Known E) (xs more : List E) → xs ≡ k.seen ++ more → AddsUpToOne by gives k.number more → IsNext by gives k xs
  is_next k xs more is (inl none) = inl (is ∙ (ap (λ l. k.seen ++ l) none ∙ append-nil k.seen))
  is_next k xs more is (inr one) = inr (one.0, is ∙ ap (λ l. k.seen ++ l) one.1, inl one.2, λ m e. absurd (none_some m (sym one.3 ∙ e)))
