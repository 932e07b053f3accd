-- The definitions at worked words.
use Rattle.std.proofs.Common.{◌≡◌, true, false, [], ◌∷◌, refl}
use Rattle.std.specs.Prelude.{codes}
use Rattle.std.specs.Str.Lossy.{utf8_valid_len}
use Rattle.std.specs.Str.{is_utf8, chars}
use lib.Utf8.{encode}
use Rattle.script_words.specs.Words.{hexadecimal, SpellsLine, word_text}

-- ---- what lines spell

two_bare : SpellsLine (codes "a b") (record { bare = true; word = codes "a" } ∷ record { bare = true; word = codes "b" } ∷ [])
two_bare = record { texts = codes "a" ∷ codes "b" ∷ []; line_is = refl; spelled = ((refl, refl), ((refl, refl), tt)); some = λ e. cc }

an_empty_word : SpellsLine (34 ∷ 34 ∷ []) (record { bare = false; word = [] } ∷ [])
an_empty_word = record {
  texts = (34 ∷ 34 ∷ []) ∷ [];
  line_is = refl;
  spelled = (([], refl, record { items = []; each = tt; inner_is = refl; word_is = refl }), tt);
  some = λ e. cc;
}

two_bytes : SpellsLine (34 ∷ 92 ∷ 120 ∷ 48 ∷ 48 ∷ 92 ∷ 120 ∷ 102 ∷ 102 ∷ 34 ∷ []) (record { bare = false; word = 0 ∷ 255 ∷ [] } ∷ [])
two_bytes = record {
  texts = (34 ∷ 92 ∷ 120 ∷ 48 ∷ 48 ∷ 92 ∷ 120 ∷ 102 ∷ 102 ∷ 34 ∷ []) ∷ [];
  line_is = refl;
  spelled = ((92 ∷ 120 ∷ 48 ∷ 48 ∷ 92 ∷ 120 ∷ 102 ∷ 102 ∷ [], refl, record { items = hexadecimal 48 48 ∷ hexadecimal 102 102 ∷ []; each = ((refl, refl), ((refl, refl), tt)); inner_is = refl; word_is = refl }), tt);
  some = λ e. cc;
}

-- ---- what words are printed as

bare : word_text (codes "a") ≡ codes "a"
bare = refl

empty : word_text [] ≡ 34 ∷ 34 ∷ []
empty = refl

spaced : word_text (codes "a b") ≡ 34 ∷ 97 ∷ 32 ∷ 98 ∷ 34 ∷ []
unfolding utf8_valid_len is_utf8 chars encode
spaced = refl

bytes : word_text (0 ∷ 255 ∷ []) ≡ 34 ∷ 92 ∷ 120 ∷ 48 ∷ 48 ∷ 92 ∷ 120 ∷ 102 ∷ 102 ∷ 34 ∷ []
unfolding utf8_valid_len is_utf8 chars encode
bytes = refl

accent : word_text (195 ∷ 169 ∷ []) ≡ 34 ∷ 195 ∷ 169 ∷ 34 ∷ []
unfolding utf8_valid_len is_utf8 chars encode
accent = refl

quote : word_text (34 ∷ []) ≡ 34 ∷ 92 ∷ 34 ∷ 34 ∷ []
unfolding utf8_valid_len is_utf8 chars encode
quote = refl

cut_short : word_text (226 ∷ 130 ∷ 110 ∷ 10 ∷ []) ≡ 34 ∷ 92 ∷ 120 ∷ 101 ∷ 50 ∷ 92 ∷ 120 ∷ 56 ∷ 50 ∷ 110 ∷ 92 ∷ 110 ∷ 34 ∷ []
unfolding utf8_valid_len is_utf8 chars encode
cut_short = refl
