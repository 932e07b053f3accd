-- How the lines of a text are passed and taken, one after another.
use Rattle.std.specs.Prelude.{◌≡◌, ◌≢◌, ℕ, ◌+◌, Bool, true, false, ◌||◌, ◌==◌, if◌then◌else◌, List, [], ◌∷◌, ◌++◌}
use Rattle.script_words.specs.Words.{Token, SpellsLine}
use Rattle.script_words.specs.Lines.{lines_of, is_skipped, unskipped}

-- the first line that isn't skipped spells the tokens, and the lines after it are left
pub record TakesLine (lines : List (List ℕ)) (tokens : List Token) (rest : List (List ℕ)) : Type 0 where
  pub passed : List (List ℕ)
  pub line : List ℕ
  pub lines_are : lines ≡ passed ++ line ∷ rest
  pub skipped : unskipped passed ≡ []
  pub kept : is_skipped line ≢ true
  pub spelled : SpellsLine line tokens

-- the first line that isn't skipped, where there is one, spells no tokens
abbrev pub HasNoLine : List (List ℕ) → Type 0
HasNoLine lines = (line : List ℕ) (more : List (List ℕ)) → unskipped lines ≡ line ∷ more → (tokens : List Token) → SpellsLine line tokens → ⊥

-- the number of the first line that isn't skipped, or of one past the last where each is, where so many lines were read
abbrev pub next_number : ℕ → List (List ℕ) → ℕ
next_number read [] = read + 1
next_number read (line ∷ lines) = if is_skipped line then next_number (read + 1) lines else read + 1

-- the first line is skipped
abbrev pub starts_skipped : List ℕ → Bool
starts_skipped [] = false
starts_skipped (b ∷ bytes) = b == 10 || b == 35

-- the first line was passed
pub record PassesLine (old new : List ℕ) : Type 0 where
  pub line : List ℕ
  pub lines_are : lines_of old ≡ line ∷ lines_of new

-- skipped lines in front were passed, so that the first line that is left isn't skipped
pub record Skips (old new : List ℕ) : Type 0 where
  pub passed : List (List ℕ)
  pub lines_are : lines_of old ≡ passed ++ lines_of new
  pub skipped : unskipped passed ≡ []
