-- The names that builders tell.
use Rattle.std.proofs.Common.{◌≡◌, List, [], ◌∷◌, map, refl, ap}
use Rattle.builder_api.specs.Told.{Told}

pub names_told : {B : Type 0} (tells : B → Told) (all : List B) → map (λ b. (tells b).named) all ≡ map (λ t. t.named) (map (λ b. tells b) all)
names_told tells [] = refl
names_told tells (b ∷ all) = ap (λ names. (tells b).named ∷ names) (names_told tells all)
