-- Printed parts, and the tokens as which they are read.
use Rattle.std.proofs.Common.{◌≡◌, ℕ, ◌<◌, nat_le, true, List, [], ◌∷◌, map, length, refl, arith}
use Rattle.std.proofs.lemmas.Bool.Decides.{nat_tests}
use Rattle.res_path.proofs.Spelled.{both}
use Rattle.std.specs.List.{list_all, AllByRecursion}
use Rattle.res_path.specs.Paths.{path_text}
use Rattle.std.specs.Prelude.{decimal}
use Rattle.std.specs.Fmt.{signed_decimal}
use Rattle.script_words.specs.Words.{printed, is_bare_byte, is_bare}
use Rattle.script_parts.specs.Parts.{Part, keyword, a_number, an_integer, a_name, a_path, a_text, a_word, FitsParts, part_word}
use Rattle.script_parts.specs.Inside.Printed.{AreParts}
use Rattle.script_words.specs.Inside.Bytes.{AreBytes}
use Rattle.script_words.proofs.Printed.{ReadsBack, text_spells}
use Rattle.script_parts.proofs.Numbers.{bare_decimal, bare_signed}

pub fits_printed : (parts : List Part) → AreParts parts → FitsParts (map printed (map part_word parts)) parts
fits_printed [] h = tt
fits_printed (keyword text ∷ parts) h = ((h.0, refl), fits_printed parts h.1)
fits_printed (a_number bits least number ∷ parts) h = ((h.0.0, bare_decimal number h.0.1, refl), fits_printed parts h.1)
fits_printed (an_integer integer ∷ parts) h = ((h.0, bare_signed integer h.0, refl), fits_printed parts h.1)
fits_printed (a_name name ∷ parts) h = ((h.0.0, refl), fits_printed parts h.1)
fits_printed (a_path path ∷ parts) h = ((h.0.0, refl), fits_printed parts h.1)
fits_printed (a_text text ∷ parts) h = ((h.0.0, refl), fits_printed parts h.1)
fits_printed (a_word word ∷ parts) h = (refl, fits_printed parts h.1)

small_byte : (b : ℕ) → is_bare_byte b ≡ true → b < 256
small_byte b h = grind (arith, nat_tests)

bare_bytes : (text : List ℕ) → list_all is_bare_byte text ≡ true → AreBytes text
bare_bytes [] h = tt
bare_bytes (b ∷ text) h = let parts = both (is_bare_byte b) (list_all is_bare_byte text) h in (small_byte b parts.0, bare_bytes text parts.1)

bare_back : (text : List ℕ) → is_bare text ≡ true → ReadsBack text
bare_back text h = text_spells text (bare_bytes text (both (nat_le 1 (length text)) (list_all is_bare_byte text) h).1)

-- the words of parts are read back
pub part_words : (parts : List Part) → AreParts parts → AllByRecursion ReadsBack (map part_word parts)
part_words [] h = tt
part_words (keyword text ∷ parts) h = (bare_back text h.0, part_words parts h.1)
part_words (a_number bits least number ∷ parts) h = (bare_back (decimal number) (bare_decimal number h.0.1), part_words parts h.1)
part_words (an_integer integer ∷ parts) h = (bare_back (signed_decimal integer) (bare_signed integer h.0), part_words parts h.1)
part_words (a_name name ∷ parts) h = (text_spells name h.0.1, part_words parts h.1)
part_words (a_path path ∷ parts) h = (text_spells (path_text path) h.0.1, part_words parts h.1)
part_words (a_text text ∷ parts) h = (text_spells text h.0.1, part_words parts h.1)
part_words (a_word word ∷ parts) h = (text_spells word h.0, part_words parts h.1)
