-- The form that types, names and texts have once they are checked.
use Rattle.std.specs.Prelude.{ℕ, ◌<◌, ◌≤◌, List, length, IsUtf8, ⊤, FitsSigned}
use Rattle.std.specs.Int.{w32}
use Rattle.mark_set.specs.declared.value.Value.{Value}
use Rattle.mark_set.specs.declared.value.Value.TheVariants.{Int, Bool, Text}

-- a type, or the name of an attribute
pub record IsName (text : List ℕ) : Type 0 where
  pub utf8 : IsUtf8 text
  pub not_empty : 0 < length text
  pub bound : length text ≤ 255

-- a text that is a value
pub record IsText (text : List ℕ) : Type 0 where
  pub utf8 : IsUtf8 text
  pub bound : length text < 65536

-- a value: a whole number is one of 32 bits, and a text has its form
abbrev pub IsValue : Value → Type 0
IsValue (Int n) = FitsSigned w32 n
IsValue (Bool _) = ⊤
IsValue (Text text) = IsText text
