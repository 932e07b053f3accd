-- Lists of which those before a place are changed.
use Rattle.std.proofs.Common.{◌≡◌, ◌<◌, ◌≤◌, ◌+◌, ℕ, zero, suc, List, [], ◌∷◌, length, refl, sym, ap, subst, arith, get_or, slice_set}
use Rattle.std.specs.List.{AllByRecursion}
use Rattle.pass_turns.specs.Turns.{Pairs}

module _ {A : Type 0} (R : A → A → Type 0) where
  -- those before the place are related, and those from it on are as they were
  abbrev pub PairsTo : ℕ → List A → List A → Type 0
  PairsTo n [] [] = Unit {0}
  PairsTo n [] (y ∷ ys) = ⊥
  PairsTo n (x ∷ xs) [] = ⊥
  PairsTo zero (x ∷ xs) (y ∷ ys) = (y ≡ x) × PairsTo zero xs ys
  PairsTo (suc n) (x ∷ xs) (y ∷ ys) = R x y × PairsTo n xs ys

  pub pairs_none : (xs : List A) → PairsTo 0 xs xs
  pairs_none [] = tt
  pairs_none (x ∷ xs) = (refl, pairs_none xs)

  one_more : (n : ℕ) (xs ys : List A) (y e : A) → n < length ys → R (get_or ys n e) y → PairsTo n xs ys → PairsTo (suc n) xs (slice_set ys n y)
  one_more n xs [] y e lt is t = absurd (omega (arith, lt))
  one_more n [] (z ∷ ys) y e lt is t = absurd (nothing n t)
    where
      nothing : (n : ℕ) → PairsTo n [] (z ∷ ys) → ⊥
      nothing zero t = t
      nothing (suc n) t = t
  one_more zero (x ∷ xs) (z ∷ ys) y e lt is t = (subst (λ w. R w y) t.0 is, t.1)
  one_more (suc n) (x ∷ xs) (z ∷ ys) y e lt is t = (t.0, one_more n xs ys y e (omega (arith, lt)) is t.1)

  pub pairs_next : (n : ℕ) (xs ys : List A) (y e : A) → n < length ys → R (get_or ys n e) y → PairsTo n xs ys → PairsTo (n + 1) xs (slice_set ys n y)
  pairs_next n xs ys y e lt is t = let on : suc n ≡ n + 1 = omega arith in subst (λ k. PairsTo k xs (slice_set ys n y)) on (one_more n xs ys y e lt is t)

  pub pairs_length : (n : ℕ) (xs ys : List A) → PairsTo n xs ys → length ys ≡ length xs
  pairs_length n [] [] t = refl
  pairs_length n [] (y ∷ ys) t = absurd t
  pairs_length n (x ∷ xs) [] t = absurd t
  pairs_length zero (x ∷ xs) (y ∷ ys) t = ap suc (pairs_length zero xs ys t.1)
  pairs_length (suc n) (x ∷ xs) (y ∷ ys) t = ap suc (pairs_length n xs ys t.1)

  pub pairs_all : (n : ℕ) (xs ys : List A) → length xs ≤ n → PairsTo n xs ys → Pairs R xs ys
  pairs_all n [] [] le t = tt
  pairs_all n [] (y ∷ ys) le t = absurd t
  pairs_all n (x ∷ xs) [] le t = absurd t
  pairs_all zero (x ∷ xs) (y ∷ ys) le t = absurd (omega (arith, le))
  pairs_all (suc n) (x ∷ xs) (y ∷ ys) le t = (t.0, pairs_all n xs ys (omega (arith, le)) t.1)

  -- what holds of all holds of the one at the place
  pub holds_at : (P : A → Type 0) (n : ℕ) (xs ys : List A) (e : A) → n < length ys → PairsTo n xs ys → AllByRecursion P xs → P (get_or ys n e)
  holds_at P n xs [] e lt t all = absurd (omega (arith, lt))
  holds_at P zero [] (y ∷ ys) e lt t all = absurd t
  holds_at P (suc n) [] (y ∷ ys) e lt t all = absurd t
  holds_at P zero (x ∷ xs) (y ∷ ys) e lt t all = subst P (sym t.0) all.0
  holds_at P (suc n) (x ∷ xs) (y ∷ ys) e lt t all = holds_at P n xs ys e (omega (arith, lt)) t.1 all.1

pub pairs_wider : {A : Type 0} (R Q : A → A → Type 0) (xs ys : List A) → ((x y : A) → R x y → Q x y) → Pairs R xs ys → Pairs Q xs ys
pairs_wider R Q [] [] f t = tt
pairs_wider R Q [] (y ∷ ys) f t = absurd t
pairs_wider R Q (x ∷ xs) [] f t = absurd t
pairs_wider R Q (x ∷ xs) (y ∷ ys) f t = (f x y t.0, pairs_wider R Q xs ys f t.1)
