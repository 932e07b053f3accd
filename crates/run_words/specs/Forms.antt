-- The forms of words that the program takes, and the texts of its own that it tells.
use Rattle.std.specs.Prelude.{◌≡◌, ◌⊎◌, ℕ, nat_lt, ◌&&◌, if◌then◌else◌, List, [], ◌∷◌, Option, Some, None, option_map, codes, decimal}
use Rattle.std.specs.Str.{bytes_eq}
use Rattle.std.specs.Str.Parse.{digits_value}
use Rattle.run_words.specs.declared.words.Form.{Form}
use Rattle.run_words.specs.declared.words.Form.TheVariants.{Run, Check, Generate, Load, Help, Version}

-- the form of a word before the names of two areas
abbrev pub areas_form : List ℕ → Option Form
areas_form word = if bytes_eq word (codes "run") then Some Run else (if bytes_eq word (codes "check") then Some Check else None)

-- the number that a word is in decimal: of at most nine digits, and without a leading zero but in `0` itself
unfoldable pub number_of : List ℕ → Option ℕ
number_of word = let number = digits_value 10 word in if bytes_eq word (decimal number) && nat_lt number 1000000000 then Some number else None

-- the form of a word before a number
abbrev pub number_form : List ℕ → List ℕ → Option Form
number_form word number = if bytes_eq word (codes "gen") then option_map Generate (number_of number) else None

-- the form of a word and a number before the names of two areas
abbrev pub load_form : List ℕ → List ℕ → Option Form
load_form word number = if bytes_eq word (codes "load") then option_map Load (number_of number) else None

-- `run A B`, `check A B` or `load N A B` with two names that differ, and there and in `gen N` with a number, `--help` alone, or
-- `--version` alone
abbrev pub form_of : List (List ℕ) → Option Form
form_of [] = None
form_of (word ∷ []) = if bytes_eq word (codes "--help") then Some Help else (if bytes_eq word (codes "--version") then Some Version else None)
form_of (word ∷ number ∷ []) = number_form word number
form_of (word ∷ left ∷ right ∷ []) = if bytes_eq left right then None else areas_form word
form_of (word ∷ number ∷ left ∷ right ∷ []) = if bytes_eq left right then None else load_form word number
form_of (word ∷ number ∷ left ∷ right ∷ more ∷ others) = None

-- the words ask for a run
abbrev pub IsRun : Option Form → Type 0
IsRun form = form ≡ Some Run

-- the words ask for a run of the script that a number gives
abbrev pub IsLoad : Option Form → Type 0
IsLoad form = (number : ℕ) × (form ≡ Some (Load number))

-- the words ask for a script to be run: the one on the source, or the one that a number gives
abbrev pub Works : Option Form → Type 0
Works form = IsRun form ⊎ IsLoad form

-- the words ask what the areas hold
abbrev pub IsCheck : Option Form → Type 0
IsCheck form = form ≡ Some Check

-- the words ask for what touches the areas
abbrev pub Touches : Option Form → Type 0
Touches form = Works form ⊎ IsCheck form

-- how the program is called, and what it does
abbrev pub help_text : List ℕ
help_text = codes "wsrun run A B\n\nRuns the script on standard input, on the workspace that the area files A and B hold, and prints what was done. A save goes into these files.\n\nwsrun check A B\n\nPrints what the area files A and B hold.\n\nwsrun gen N\n\nPrints the script that the number N gives, which has at most nine digits.\n\nwsrun load N A B\n\nRuns that script on the workspace that A and B hold, as run does, and prints how many jobs were finished, how many builds settled, how many elements the workspace has then, and the digest of its tree.\n"

-- the program and its version
abbrev pub version_text : List ℕ
version_text = codes "wsrun 0.1.0\n"
