-- Parts that are printed.
use Rattle.std.specs.Prelude.{ℕ, ◌<◌, ◌^◌, List, ◌∷◌, IsTrue, IsUtf8, FitsSigned}
use Rattle.std.specs.Int.{w32}
use Rattle.std.specs.List.{flat_map, AllByRecursion}
use Rattle.res_path.specs.Names.{IsName}
use Rattle.res_path.specs.Paths.{IsPath, path_text}
use Rattle.script_words.specs.Words.{is_bare, word_text}
use Rattle.script_words.specs.Inside.Bytes.{AreBytes}
use Rattle.script_parts.specs.Parts.{Part, keyword, a_number, an_integer, a_name, a_path, a_text, a_word, IsNumber, part_word}

-- a part that its printed word stands for
abbrev pub IsPart : Part → Type 0
IsPart (keyword text) = IsTrue (is_bare text)
IsPart (a_number bits least number) = IsNumber bits least number × (number < 2 ^ 64)
IsPart (an_integer integer) = FitsSigned w32 integer
IsPart (a_name name) = IsName name × AreBytes name
IsPart (a_path path) = IsPath path × AreBytes (path_text path)
IsPart (a_text text) = IsUtf8 text × AreBytes text
IsPart (a_word word) = AreBytes word

abbrev pub AreParts : List Part → Type 0
AreParts parts = AllByRecursion IsPart parts

-- the words of the parts, with a space in front of each
abbrev pub spaced : List Part → List ℕ
spaced parts = flat_map (λ part. 32 ∷ word_text (part_word part)) parts
