-- Listeners that are told one after another.
use Rattle.std.proofs.Common.{◌≡◌, ℕ, zero, suc, ◌+◌, ◌<◌, ◌≤◌, List, [], ◌∷◌, length, map, get_or, slice_set, refl, ap, ◌∙◌, subst, arith}

module _ {A X : Type 0} (heard : A → X) (more : X → X) where
  -- so many were told, and the others not yet
  abbrev pub AreToldTo : ℕ → List A → List A → Type 0
  AreToldTo n [] [] = Unit {0}
  AreToldTo zero (x ∷ xs) (y ∷ ys) = (heard y ≡ heard x) × AreToldTo zero xs ys
  AreToldTo (suc n) (x ∷ xs) (y ∷ ys) = (heard y ≡ more (heard x)) × AreToldTo n xs ys
  AreToldTo n [] (y ∷ ys) = ⊥
  AreToldTo n (x ∷ xs) [] = ⊥

  pub told_none : (xs : List A) → AreToldTo 0 xs xs
  told_none [] = tt
  told_none (x ∷ xs) = (refl, told_none xs)

  one_more : (n : ℕ) (xs ys : List A) (y e : A) → n < length ys → heard y ≡ more (heard (get_or ys n e)) → AreToldTo n xs ys → AreToldTo (suc n) xs (slice_set ys n y)
  one_more n [] [] y e lt is t = absurd (omega (arith, lt))
  one_more n [] (z ∷ ys) y e lt is t = absurd t
  one_more n (x ∷ xs) [] y e lt is t = absurd t
  one_more zero (x ∷ xs) (z ∷ ys) y e lt is t = (is ∙ ap more t.0, t.1)
  one_more (suc n) (x ∷ xs) (z ∷ ys) y e lt is t = (t.0, one_more n xs ys y e (omega (arith, lt)) is t.1)

  pub told_next : (n : ℕ) (xs ys : List A) (y e : A) → n < length ys → heard y ≡ more (heard (get_or ys n e)) → AreToldTo n xs ys → AreToldTo (n + 1) xs (slice_set ys n y)
  told_next n xs ys y e lt is t = let on : suc n ≡ n + 1 = omega arith in subst (λ k. AreToldTo k xs (slice_set ys n y)) on (one_more n xs ys y e lt is t)

  pub same_length : (n : ℕ) (xs ys : List A) → AreToldTo n xs ys → length ys ≡ length xs
  same_length n [] [] t = refl
  same_length n [] (y ∷ ys) t = absurd t
  same_length n (x ∷ xs) [] t = absurd t
  same_length zero (x ∷ xs) (y ∷ ys) t = ap suc (same_length zero xs ys t.1)
  same_length (suc n) (x ∷ xs) (y ∷ ys) t = ap suc (same_length n xs ys t.1)

  pub told_all : (n : ℕ) (xs ys : List A) → length xs ≤ n → AreToldTo n xs ys → map heard ys ≡ map more (map heard xs)
  told_all n [] [] le t = refl
  told_all n [] (y ∷ ys) le t = absurd t
  told_all n (x ∷ xs) [] le t = absurd t
  told_all zero (x ∷ xs) (y ∷ ys) le t = absurd (omega (arith, le))
  told_all (suc n) (x ∷ xs) (y ∷ ys) le t = ap (λ h. h ∷ map heard ys) t.0 ∙ ap (λ hs. more (heard x) ∷ hs) (told_all n xs ys (omega (arith, le)) t.1)
