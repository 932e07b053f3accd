-- Lists whose places are related, and such of which those before a place are.
use Rattle.std.proofs.Common.{◌≡◌, ◌<◌, ◌≤◌, ◌+◌, ℕ, zero, suc, List, [], ◌∷◌, length, map, refl, ap, ◌∙◌, subst, arith, get_or, slice_set}
use Rattle.std.specs.List.{AllByRecursion}
use Rattle.job_pool.specs.Workers.{Pairs}

module _ {A : Type 0} (R : A → A → Type 0) where
  pub pairs_len : (xs ys : List A) → Pairs R xs ys → length ys ≡ length xs
  pairs_len [] [] t = refl
  pairs_len [] (y ∷ ys) t = absurd t
  pairs_len (x ∷ xs) [] t = absurd t
  pairs_len (x ∷ xs) (y ∷ ys) t = ap suc (pairs_len xs ys t.1)

  pub pairs_at : (xs ys : List A) (i : ℕ) (d : A) → i < length xs → Pairs R xs ys → R (get_or xs i d) (get_or ys i d)
  pairs_at [] ys i d lt t = absurd (omega (arith, lt))
  pairs_at (x ∷ xs) [] i d lt t = absurd t
  pairs_at (x ∷ xs) (y ∷ ys) zero d lt t = t.0
  pairs_at (x ∷ xs) (y ∷ ys) (suc i) d lt t = pairs_at xs ys i d (omega (arith, lt)) t.1

  -- what follows for the second ones holds of all of them
  pub pairs_all : (P : A → Type 0) → ((x y : A) → R x y → P y) → (xs ys : List A) → Pairs R xs ys → AllByRecursion P ys
  pairs_all P f [] [] t = tt
  pairs_all P f [] (y ∷ ys) t = absurd t
  pairs_all P f (x ∷ xs) [] t = absurd t
  pairs_all P f (x ∷ xs) (y ∷ ys) t = (f x y t.0, pairs_all P f xs ys t.1)

  -- and so do their images
  pub pairs_map : {B : Type 0} (Q : B → B → Type 0) (f : A → B) → ((x y : A) → R x y → Q (f x) (f y)) → (xs ys : List A) → Pairs R xs ys → Pairs Q (map f xs) (map f ys)
  pairs_map Q f g [] [] t = tt
  pairs_map Q f g [] (y ∷ ys) t = absurd t
  pairs_map Q f g (x ∷ xs) [] t = absurd t
  pairs_map Q f g (x ∷ xs) (y ∷ ys) t = (g x y t.0, pairs_map Q f g xs ys t.1)

  -- where they have the same images
  pub pairs_same : {B : Type 0} (f : A → B) → ((x y : A) → R x y → f y ≡ f x) → (xs ys : List A) → Pairs R xs ys → map f ys ≡ map f xs
  pairs_same f g [] [] t = refl
  pairs_same f g [] (y ∷ ys) t = absurd t
  pairs_same f g (x ∷ xs) [] t = absurd t
  pairs_same f g (x ∷ xs) (y ∷ ys) t = ap (λ z. z ∷ map f ys) (g x y t.0) ∙ ap (λ zs. f x ∷ zs) (pairs_same f g xs ys t.1)

  -- ---- those before a place

  -- those before the place are related, and those from it on are as they were
  abbrev pub PairsTo : ℕ → List A → List A → Type 0
  PairsTo n [] [] = Unit {0}
  PairsTo n [] (y ∷ ys) = ⊥
  PairsTo n (x ∷ xs) [] = ⊥
  PairsTo zero (x ∷ xs) (y ∷ ys) = (y ≡ x) × PairsTo zero xs ys
  PairsTo (suc n) (x ∷ xs) (y ∷ ys) = R x y × PairsTo n xs ys

  pub to_none : (xs : List A) → PairsTo 0 xs xs
  to_none [] = tt
  to_none (x ∷ xs) = (refl, to_none xs)

  one_more : (n : ℕ) (xs ys : List A) (y e : A) → n < length ys → R (get_or ys n e) y → PairsTo n xs ys → PairsTo (suc n) xs (slice_set ys n y)
  one_more n xs [] y e lt is t = absurd (omega (arith, lt))
  one_more n [] (z ∷ ys) y e lt is t = absurd (nothing n t)
    where
      nothing : (n : ℕ) → PairsTo n [] (z ∷ ys) → ⊥
      nothing zero t = t
      nothing (suc n) t = t
  one_more zero (x ∷ xs) (z ∷ ys) y e lt is t = (subst (λ w. R w y) t.0 is, t.1)
  one_more (suc n) (x ∷ xs) (z ∷ ys) y e lt is t = (t.0, one_more n xs ys y e (omega (arith, lt)) is t.1)

  pub to_next : (n : ℕ) (xs ys : List A) (y e : A) → n < length ys → R (get_or ys n e) y → PairsTo n xs ys → PairsTo (n + 1) xs (slice_set ys n y)
  to_next n xs ys y e lt is t = let on : suc n ≡ n + 1 = omega arith in subst (λ k. PairsTo k xs (slice_set ys n y)) on (one_more n xs ys y e lt is t)

  pub to_len : (n : ℕ) (xs ys : List A) → PairsTo n xs ys → length ys ≡ length xs
  to_len n [] [] t = refl
  to_len n [] (y ∷ ys) t = absurd t
  to_len n (x ∷ xs) [] t = absurd t
  to_len zero (x ∷ xs) (y ∷ ys) t = ap suc (to_len zero xs ys t.1)
  to_len (suc n) (x ∷ xs) (y ∷ ys) t = ap suc (to_len n xs ys t.1)

  pub to_all : (n : ℕ) (xs ys : List A) → length xs ≤ n → PairsTo n xs ys → Pairs R xs ys
  to_all n [] [] le t = tt
  to_all n [] (y ∷ ys) le t = absurd t
  to_all n (x ∷ xs) [] le t = absurd t
  to_all zero (x ∷ xs) (y ∷ ys) le t = absurd (omega (arith, le))
  to_all (suc n) (x ∷ xs) (y ∷ ys) le t = (t.0, to_all n xs ys (omega (arith, le)) t.1)

  -- the one at the place is as it was
  pub to_same : (n : ℕ) (xs ys : List A) (e : A) → n < length ys → PairsTo n xs ys → get_or ys n e ≡ get_or xs n e
  to_same n xs [] e lt t = absurd (omega (arith, lt))
  to_same zero [] (y ∷ ys) e lt t = absurd t
  to_same (suc n) [] (y ∷ ys) e lt t = absurd t
  to_same zero (x ∷ xs) (y ∷ ys) e lt t = t.0
  to_same (suc n) (x ∷ xs) (y ∷ ys) e lt t = to_same n xs ys e (omega (arith, lt)) t.1

-- ---- what holds of all

module _ {A B : Type 0} (P : B → Type 0) (f : A → B) where
  -- what holds of all images holds of that of the one at the place
  pub image_at : (xs : List A) (i : ℕ) (d : A) → i < length xs → AllByRecursion P (map f xs) → P (f (get_or xs i d))
  image_at [] i d lt all = absurd (omega (arith, lt))
  image_at (x ∷ xs) zero d lt all = all.0
  image_at (x ∷ xs) (suc i) d lt all = image_at xs i d (omega (arith, lt)) all.1

module _ {A : Type 0} (P : A → Type 0) where
  pub all_at : (xs : List A) (i : ℕ) (d : A) → i < length xs → AllByRecursion P xs → P (get_or xs i d)
  all_at [] i d lt all = absurd (omega (arith, lt))
  all_at (x ∷ xs) zero d lt all = all.0
  all_at (x ∷ xs) (suc i) d lt all = all_at xs i d (omega (arith, lt)) all.1

  pub all_by : (xs : List A) (d : A) → ((i : ℕ) → i < length xs → P (get_or xs i d)) → AllByRecursion P xs
  all_by [] d f = tt
  all_by (x ∷ xs) d f = (f 0 (omega arith), all_by xs d (λ i lt. f (suc i) (omega (arith, lt))))
