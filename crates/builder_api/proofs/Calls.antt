-- A call of one of some builders.
use Rattle.std.proofs.Common.{◌≡◌, ℕ, zero, suc, cond, ◌+◌, ◌<◌, List, [], ◌∷◌, length, map, slice_set, get_or, refl, ap, subst, arith}
use Rattle.std.specs.Prelude.{Some, IfSome, slice_get}
use Rattle.std.specs.List.{position_from}
use Rattle.std.specs.Str.{bytes_eq}
use Rattle.builder_api.specs.Told.{Call, Told, WasCalled, WasCalledAt, HasRisen, HasRisenAt}

module _ {A : Type 0} (tells : A → Told) where
  one_called : (call : Call) (xs : List A) (at : ℕ) (y d : A)
      → at < length xs → WasCalled call (tells (get_or xs at d)) (tells y) → WasCalledAt at call (map tells xs) (map tells (slice_set xs at y))
  one_called call [] at y d h was = tt
  one_called call (z ∷ zs) zero y d h was = (was, refl)
  one_called call (z ∷ zs) (suc n) y d h was = (refl, one_called call zs n y d (omega (arith, h)) was)

  one_told : (P : Told → Type 0) (xs : List A) (at : ℕ) (d : A) → at < length xs → P (tells (get_or xs at d)) → IfSome (slice_get (map tells xs) at) P
  one_told P [] at d h p = absurd (omega arith)
  one_told P (z ∷ zs) zero d h p = p
  one_told P (z ∷ zs) (suc n) d h p = one_told P zs n d (omega (arith, h)) p

  one_risen : (xs : List A) (at : ℕ) (y d : A)
      → at < length xs → HasRisen (tells (get_or xs at d)).faults (tells y).faults → HasRisenAt at (map tells xs) (map tells (slice_set xs at y))
  one_risen [] at y d h rose = absurd (omega arith)
  one_risen (z ∷ zs) zero y d h rose = rose
  one_risen (z ∷ zs) (suc n) y d h rose = one_risen zs n y d (omega (arith, h)) rose

  -- the one at the place was called
  pub called_at : (call : Call) (xs ys : List A) (at : ℕ) (y d : A) → xs ≡ ys → at < length ys
      → WasCalled call (tells (get_or xs at d)) (tells y) → WasCalledAt at call (map tells ys) (map tells (slice_set xs at y))
  called_at call xs ys at y d same h was =
      subst (λ zs. WasCalledAt at call (map tells zs) (map tells (slice_set xs at y))) same (one_called call xs at y d (rw same h) was)

  -- what holds of what it tells
  pub told_at : (P : Told → Type 0) (xs ys : List A) (at : ℕ) (d : A) → xs ≡ ys → at < length ys → P (tells (get_or xs at d)) → IfSome (slice_get (map tells ys) at) P
  told_at P xs ys at d same h p = subst (λ zs. IfSome (slice_get (map tells zs) at) P) same (one_told P xs at d (rw same h) p)

  -- its count rose
  pub risen_at : (xs ys : List A) (at : ℕ) (y d : A) → xs ≡ ys → at < length ys
      → HasRisen (tells (get_or xs at d)).faults (tells y).faults → HasRisenAt at (map tells ys) (map tells (slice_set xs at y))
  risen_at xs ys at y d same h rose = subst (λ zs. HasRisenAt at (map tells zs) (map tells (slice_set xs at y))) same (one_risen xs at y d (rw same h) rose)

  -- the place among builders is the one among what they tell
  pub place_told : (name : List ℕ) (at : ℕ) (xs : List A)
      → position_from (λ b. bytes_eq (tells b).named name) at xs ≡ position_from (λ b. bytes_eq b.named name) at (map tells xs)
  place_told name at [] = refl
  place_told name at (x ∷ xs) = ap (cond (bytes_eq (tells x).named name) (Some at)) (place_told name (at + 1) xs)
