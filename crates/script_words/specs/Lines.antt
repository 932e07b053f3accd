-- The lines of a text.
use Rattle.std.specs.Prelude.{ℕ, Bool, true, not, ◌==◌, List, [], ◌∷◌}
use Rattle.std.specs.List.{slice_split, filter}
use Rattle.script_words.specs.Words.{Token, SpellsLine}

abbrev pub is_line_feed : ℕ → Bool
is_line_feed b = b == 10

-- the last part is no line where it is empty
abbrev pub without_empty_end : List (List ℕ) → List (List ℕ)
without_empty_end [] = []
without_empty_end ([] ∷ []) = []
without_empty_end ((b ∷ bytes) ∷ []) = (b ∷ bytes) ∷ []
without_empty_end (line ∷ next ∷ lines) = line ∷ without_empty_end (next ∷ lines)

-- what stands before and between the line feeds, and what follows the last one where that isn't empty
abbrev pub lines_of : List ℕ → List (List ℕ)
lines_of bytes = without_empty_end (slice_split is_line_feed bytes)

-- an empty line, or one that begins with `#`
abbrev pub is_skipped : List ℕ → Bool
is_skipped [] = true
is_skipped (b ∷ bytes) = b == 35

-- the lines that aren't skipped
abbrev pub unskipped : List (List ℕ) → List (List ℕ)
unskipped lines = filter (λ line. not (is_skipped line)) lines

abbrev pub SpellsEach : List (List ℕ) → List (List Token) → Type 0
SpellsEach [] [] = Unit {0}
SpellsEach (line ∷ lines) (tokens ∷ more) = SpellsLine line tokens × SpellsEach lines more
SpellsEach [] (tokens ∷ more) = ⊥
SpellsEach (line ∷ lines) [] = ⊥

-- the lines that aren't skipped spell the tokens, line by line
abbrev pub SpellsLines : List (List ℕ) → List (List Token) → Type 0
SpellsLines lines tokens = SpellsEach (unskipped lines) tokens
