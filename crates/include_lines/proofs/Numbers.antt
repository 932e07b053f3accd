-- Lines by their numbers.
use Rattle.std.proofs.Common.{◌≡◌, ℕ, ◌+◌, List, [], ◌∷◌, ◌++◌, Option, Some, None, refl, arith}
use Rattle.std.specs.Prelude.{pos, min}
use Rattle.include_lines.specs.Lines.{include_name}
use Rattle.include_lines.specs.Messages.{message}
use Rattle.include_lines.specs.Expanding.{Files, told, missing_by, missing_among}

told_same : (n m : ℕ) (name : List ℕ) (found : Option (List ℕ)) → min n 2147483647 ≡ min m 2147483647 → told n name found ≡ told m name found
told_same n m name (Some bytes) same = refl
told_same n m name None same = λ i. (record { line = pos (same i); message = message name }) ∷ []

by_same : (files : Files) (n m : ℕ) (name : Option (List ℕ)) → min n 2147483647 ≡ min m 2147483647 → missing_by files n name ≡ missing_by files m name
by_same files n m None same = refl
by_same files n m (Some name) same = told_same n m name (files name) same

-- numbers that are told alike
pub same_numbers : (files : Files) (n m : ℕ) (lines : List (List ℕ)) → min n 2147483647 ≡ min m 2147483647 → missing_among files n lines ≡ missing_among files m lines
same_numbers files n m [] same = refl
same_numbers files n m (line ∷ lines) same =
    let first = by_same files n m (include_name line) same in
    let others = same_numbers files (n + 1) (m + 1) lines (omega (arith, same)) in
    λ i. first i ++ others i
