-- The order and the prefixes of paths, by the texts that they are kept in.
use Rattle.std.specs.Prelude.{◌≢◌, ℕ, ◌+◌, ◌*◌, ◌<◌, slice_index, length, Bool, true, false, ◌==◌, ◌&&◌, if◌then◌else◌, List, [], ◌∷◌}
use Rattle.std.specs.declared.cmp.Ordering.{Ordering}
use Rattle.std.specs.Ordering.{nat_cmp, on}
use Rattle.std.specs.Cmp.Lexicographic.{slice_cmp}
use Rattle.res_path.specs.Parts.{is_slash}

-- a slash before every byte
abbrev pub rank : ℕ → ℕ
rank b = if is_slash b then 0 else b + 1

-- byte by byte, a slash before every byte, a prefix first
abbrev pub text_cmp : List ℕ → List ℕ → Ordering
text_cmp = slice_cmp (on rank nat_cmp)

-- the text ends here, or a slash follows
abbrev pub ends_name : List ℕ → Bool
ends_name [] = true
ends_name (b ∷ bytes) = is_slash b

-- p stands at the front of q, and there a name of q ends
abbrev pub text_prefix : List ℕ → List ℕ → Bool
text_prefix [] q = ends_name q
text_prefix (b ∷ p) [] = false
text_prefix (b ∷ p) (c ∷ q) = b == c && text_prefix p q

-- the number that bytes spell, the first byte the lowest
abbrev pub word_of : List ℕ → ℕ
word_of [] = 0
word_of (b ∷ bytes) = word_of bytes * 256 + b

-- two texts have different bytes at a place of both
pub record DifferAt (a b : List ℕ) (at : ℕ) : Type 0 where
  pub first : at < length a
  pub second : at < length b
  pub other : slice_index a at ≢ slice_index b at
