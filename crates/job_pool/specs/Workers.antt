-- What is said of workers once they have left.
use Rattle.std.specs.Prelude.{List, [], ◌∷◌}

-- the worker came from what it was to what it is by whole jobs, and may leave
pub record Worked {B W : Type 0} (ready : B → W → Type 0) (goes : B → W → W → Type 0) (over : B → W → Type 0) (board : B) (before after : W) : Type 0 where
  pub stands : ready board after
  pub went : goes board before after
  pub ends : over board after

-- the two lists are as long, and what stands at one place in both is so related
abbrev pub Pairs : {A : Type 0} → (A → A → Type 0) → List A → List A → Type 0
Pairs R [] [] = Unit {0}
Pairs R [] (y ∷ ys) = ⊥
Pairs R (x ∷ xs) [] = ⊥
Pairs R (x ∷ xs) (y ∷ ys) = R x y × Pairs R xs ys
