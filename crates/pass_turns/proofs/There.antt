-- A pass that is there stays while others go on.
use Rattle.std.proofs.Common.{Bool, ◌≡◌, ◌≢◌, ℕ, true, List, [], ◌∷◌, ◌++◌, length, nat_eq, refl, sym, ap, ◌∙◌, subst, arith, true≢false, eq-eqb, append-nil, append_assoc, length-append, if◌then◌else◌}
use Rattle.ws_turn.specs.Lists.{StartsWith, of}
use Rattle.ws_turn.proofs.Lists.{of_append, by_bool}

cancel : {E : Type 0} (xs ys : List E) → xs ++ ys ≡ xs → ys ≡ []
cancel xs [] e = refl
cancel xs (y ∷ ys) e = let len = ap length e in absurd (omega (arith, len, length-append xs (y ∷ ys)))

module _ {E : Type 0} (by : E → ℕ) where
  -- an entry that isn't the pass's own, and those after it
  pub others : (n : ℕ) (x : E) (more : List E) → of by n (x ∷ more) ≡ [] → (by x ≢ n) × (of by n more ≡ [])
  others n x more none = by_bool (nat_eq (by x) n)
      (λ t. let len : length (x ∷ of by n more) ≡ 0 = ap length (sym (ap (λ b. if b then x ∷ of by n more else of by n more) t) ∙ none) in absurd (omega (arith, len)))
      (λ t. ((λ same. true≢false (sym (eq-eqb (by x) n same) ∙ t)), sym (ap (λ b. if b then x ∷ of by n more else of by n more) t) ∙ none))

  -- where two fronts have the same entries of a number, what lies between has none
  pub none_between : (n : ℕ) (seen rest mine : List E) → of by n seen ≡ mine → of by n (seen ++ rest) ≡ mine → of by n rest ≡ []
  none_between n seen rest mine a b = cancel (of by n seen) (of by n rest) (sym (of_append by n seen rest) ∙ (b ∙ sym a))

module _ {E B : Type 0} (by : E → ℕ) (there : B → List E → ℕ → Bool) (stays : (b : B) (h : List E) (x : E) (n : ℕ) → there b h n ≡ true → by x ≢ n → there b (h ++ x ∷ []) n ≡ true) where
  pub stays_over : (b : B) (n : ℕ) (h more : List E) → there b h n ≡ true → of by n more ≡ [] → there b (h ++ more) n ≡ true
  stays_over b n h [] t none = subst (λ l. there b l n ≡ true) (sym (append-nil h)) t
  stays_over b n h (x ∷ more) t none =
      let o = others by n x more none in
      subst (λ l. there b l n ≡ true) (append_assoc h (x ∷ []) more) (stays_over b n (h ++ x ∷ []) more (stays b h x n t o.0) o.1)

  pub there_found : (b : B) (n : ℕ) (seen found mine : List E) → there b seen n ≡ true → StartsWith found seen → of by n seen ≡ mine → of by n found ≡ mine → there b found n ≡ true
  there_found b n seen found mine t s old now =
      subst (λ l. there b l n ≡ true) (sym s.1) (stays_over b n seen s.0 t (none_between by n seen s.0 mine old (ap (of by n) (sym s.1) ∙ now)))
