-- Paths and what stands above them.
use Rattle.std.proofs.Common.{◌≡◌, ◌≤◌, ◌<◌, true, false, ◌&&◌, [], ◌∷◌, length, take, refl, arith}
use Rattle.std.specs.Str.{bytes_eq}
use Rattle.res_path.specs.Paths.{Names, parent, is_prefix}

-- a path is in the project that its parent is in
pub take_parent : (p : Names) → 2 ≤ length p → take 1 (parent p) ≡ take 1 p
take_parent [] h = refl
take_parent (n ∷ []) h = absurd (omega arith)
take_parent (n ∷ m ∷ p) h = refl

-- the project of a path of two names is its parent
pub project_above_two : (p : Names) → length p ≡ 2 → take 1 p ≡ parent p
project_above_two [] h = refl
project_above_two (n ∷ []) h = absurd (omega arith)
project_above_two (n ∷ m ∷ []) h = refl
project_above_two (n ∷ m ∷ k ∷ p) h = absurd (omega arith)

-- the parent has fewer names
pub parent_shorter : (p : Names) → 1 ≤ length p → length (parent p) < length p
parent_shorter [] h = absurd (omega arith)
parent_shorter (n ∷ []) h = omega arith
parent_shorter (n ∷ m ∷ p) h = let less : length (parent (m ∷ p)) < length (m ∷ p) = parent_shorter (m ∷ p) (omega arith) in omega arith

-- what is below the parent of a path is below no more than the path is
pub prefix_parent : (p q : Names) → is_prefix p (parent q) ≡ true → is_prefix p q ≡ true
prefix_parent [] q h = refl
prefix_parent (n ∷ p) [] h = h
prefix_parent (n ∷ p) (m ∷ []) h = absurd (never h)
  where
    never : false ≡ true → ⊥
    never e = cc
prefix_parent (n ∷ p) (m ∷ k ∷ q) h = elim (bytes_eq n m) as (λ b. (b && is_prefix p (parent (k ∷ q))) ≡ true → (b && is_prefix p (k ∷ q)) ≡ true) [
  | true ↦ prefix_parent p (k ∷ q)
  | false ↦ λ e. e
] h
