-- Lists whose places are related.
use Rattle.std.proofs.Common.{◌≡◌, ◌<◌, ℕ, suc, List, [], ◌∷◌, length, slice_index_or, arith}
use Rattle.job_pool.specs.Workers.{Pairs}

pub pairs_each : {A : Type 0} (R : A → A → Type 0) (xs ys : List A) → length ys ≡ length xs
    → ((i : ℕ) (d : A) → i < length xs → R (slice_index_or xs i d) (slice_index_or ys i d)) → Pairs R xs ys
pairs_each R [] [] same each = tt
pairs_each R [] (y ∷ ys) same each = absurd (omega (arith, same))
pairs_each R (x ∷ xs) [] same each = absurd (omega (arith, same))
pairs_each R (x ∷ xs) (y ∷ ys) same each = (
  each 0 x (omega arith),
  pairs_each R xs ys (omega (arith, same)) (λ i d lt. each (suc i) d (omega (arith, lt))),
)
