-- The first place of a byte.
use Rattle.std.proofs.Common.{◌≡◌, ℕ, ◌<◌, Bool, List, length, Option, Some, None, arith}
use Rattle.std.specs.List.{position, position_or_len}
use Rattle.std.proofs.lemmas.Bool.{false_from_ne_true}
use Rattle.std.proofs.lemmas.Grind.{common_steps}
use Rattle.std.proofs.lemmas.List.Sums.{position_or_len_is}
use Rattle.memchr.specs.Find.{IsFirstByte}

-- the first place whose byte passes is the one that a search from the front finds
pub first_place : (p : ℕ → Bool) (xs : List ℕ) (r : Option ℕ) → IsFirstByte p xs r → r ≡ position p xs
first_place p xs None none =
    let past : position_or_len p xs ≡ length xs =
    position_or_len_is p xs (length xs) 0 (omega arith) (λ k within. false_from_ne_true (p _) (none k (omega arith) within)) (λ within. absurd (omega (arith, within)))
    in
    grind (arith, common_steps)
first_place p xs (Some k) found =
    let at : position_or_len p xs ≡ k =
    position_or_len_is p xs k 0 (omega (arith, found.0.high)) (λ i before. false_from_ne_true (p _) (found.0.before i (omega arith) before)) (λ within. found.1)
    in
    let within : k < length xs = found.0.high in
    grind (arith, common_steps)
