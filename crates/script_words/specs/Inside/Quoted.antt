-- How quoted words are read, byte by byte.
use Rattle.std.specs.Prelude.{ℕ, ◌+◌, ◌*◌, Bool, not, ◌&&◌, ◌==◌, cond, if◌then◌else◌, List, [], ◌∷◌, ◌++◌, Option, Some, None}
use Rattle.std.specs.Option.{option_map, option_to_list}
use Rattle.std.specs.Char.{digit_value}
use Rattle.script_words.specs.declared.quoted.State.{State}
use Rattle.script_words.specs.declared.quoted.State.TheVariants.{Between, Escape, FirstDigit, SecondDigit}
use Rattle.script_words.specs.Words.{is_plain, is_letter, letter_byte, is_hex}

-- ---- where the closing quote is

-- a quote that no backslash takes with it
abbrev pub closes : Bool → ℕ → Bool
closes escaped b = not escaped && b == 34

-- a backslash that takes the next byte with it
abbrev pub takes_next : Bool → ℕ → Bool
takes_next escaped b = not escaped && b == 92

-- the place of the first quote that closes, where the list starts at this place
abbrev pub quote_from : Bool → ℕ → List ℕ → Option ℕ
quote_from escaped at [] = None
quote_from escaped at (b ∷ bytes) = cond (closes escaped b) (Some at) (quote_from (takes_next escaped b) (at + 1) bytes)

-- ---- what the bytes before it denote

-- what is to follow a byte, and the byte of the word that is whole with it
abbrev pub step : State → ℕ → Option (State × Option ℕ)
step Between b = if b == 92 then Some (Escape, None) else (if is_plain b then Some (Between, Some b) else None)
step Escape b = if b == 120 then Some (FirstDigit, None) else (if is_letter b then Some (Between, Some (letter_byte b)) else None)
step FirstDigit b = Some (SecondDigit b, None)
step (SecondDigit high) b = if is_hex high && is_hex b then Some (Between, Some (digit_value high * 16 + digit_value b)) else None

-- an escape that was begun is to be ended
abbrev pub at_end : State → Option (List ℕ)
at_end Between = Some []
at_end Escape = None
at_end FirstDigit = None
at_end (SecondDigit high) = None

abbrev pub then_denoted : Option (State × Option ℕ) → (State → Option (List ℕ)) → Option (List ℕ)
then_denoted None rest = None
then_denoted (Some after) rest = option_map (λ word. option_to_list after.1 ++ word) (rest after.0)

-- what the bytes denote from this state on, where they are items to the end
abbrev pub denoted : List ℕ → State → Option (List ℕ)
denoted [] state = at_end state
denoted (b ∷ bytes) state = then_denoted (step state b) (denoted bytes)
