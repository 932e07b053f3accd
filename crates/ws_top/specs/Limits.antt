-- How much of a source is read.
use Rattle.std.specs.Prelude.{◌≡◌, ℕ, ◌+◌, ◌≤◌, List, length, Option, IfSome}
use Rattle.ws_outside.specs.Streams.{Takes, IsAtEnd}

-- the bytes of the longest script
abbrev pub longest : ℕ
longest = 67108864

-- These bytes were read, at most one more than the longest script has; where the number of reads is told, each but
-- the last took at least one byte.
pub record Reads (old new : Option (List ℕ)) (before after : Option ℕ) (bytes : List ℕ) : Type 0 where
  pub taken : Takes old bytes new
  pub bounded : length bytes ≤ longest + 1
  pub few : IfSome after (λ n. IfSome before (λ m. n ≤ m + length bytes + 1))

-- all that was left was read, no more than the longest script has
pub record ReadsAll (old new : Option (List ℕ)) (bytes : List ℕ) : Type 0 where
  pub taken : Takes old bytes new
  pub ended : IsAtEnd new
  pub short : length bytes ≤ longest

-- no more was read than the longest script has
abbrev pub ReadsShort : Option (List ℕ) → Option (List ℕ) → Type 0
ReadsShort old new = (bytes : List ℕ) × (length bytes ≤ longest) × Takes old bytes new

-- one byte more was read than the longest script has
abbrev pub ReadsLong : Option (List ℕ) → Option (List ℕ) → Type 0
ReadsLong old new = (bytes : List ℕ) × (length bytes ≡ longest + 1) × Takes old bytes new
