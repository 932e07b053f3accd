-- Words of printed lines.
use Rattle.std.specs.Prelude.{ℕ, List}
use Rattle.std.specs.List.{flat_map}
use Rattle.res_path.specs.Paths.{Names, path_text}
use Rattle.script_words.specs.Words.{two_digits, word_text}

-- a path as a word
abbrev pub path_word : Names → List ℕ
path_word p = word_text (path_text p)

-- bytes in lower-case hexadecimal
abbrev pub hexadecimal : List ℕ → List ℕ
hexadecimal = flat_map two_digits
