-- What a source and a sink tell of their bytes, where they tell it. None claims nothing.
use Rattle.std.specs.Prelude.{◌≡◌, ℕ, ◌+◌, ◌≤◌, List, [], ◌++◌, length, take, Option, IfSome, IsSomeAnd, option_map}

-- these bytes were the front of what was left
abbrev pub Takes : Option (List ℕ) → List ℕ → Option (List ℕ) → Type 0
Takes old bytes new = old ≡ option_map (λ rest. bytes ++ rest) new

-- nothing is left
abbrev pub IsAtEnd : Option (List ℕ) → Type 0
IsAtEnd left = IfSome left (λ rest. rest ≡ [])

-- these bytes came after what was written
abbrev pub Gains : Option (List ℕ) → List ℕ → Option (List ℕ) → Type 0
Gains old bytes new = new ≡ option_map (λ before. before ++ bytes) old

-- some front of these bytes came after what was written
abbrev pub GainsFront : Option (List ℕ) → List ℕ → Option (List ℕ) → Type 0
GainsFront old bytes new = (n : ℕ) × (n ≤ length bytes) × Gains old (take n bytes) new

-- there was one more, where both counts are told; a count that is told now was told before
abbrev pub CountsOne : Option ℕ → Option ℕ → Type 0
CountsOne old new = IfSome new (λ n. IsSomeAnd old (λ m. n ≡ m + 1))
