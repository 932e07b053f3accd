-- What is printed spells the word.
use Rattle.std.proofs.Common.{◌≡◌, ◌≢◌, inl, inr, ℕ, zero, suc, ◌+◌, ◌*◌, ◌/◌, ◌%◌, ◌<◌, ◌≤◌, Bool, true, false, not, ◌||◌, ◌==◌, nat_le, nat_lt, List, [], ◌∷◌, ◌++◌, map, length, take, drop, get_or, IsUtf8, Fits, w8, refl, sym, ◌∙◌, ap, subst, append_assoc, append-nil, arith, length-drop}
use Rattle.std.specs.Prelude.{IsTrue, if◌then◌else◌}
use Rattle.std.specs.List.{slice_split, onto_first, list_all, flat_map, enumerate_from, join_with_byte, AllByRecursion}
use Rattle.std.specs.Char.{digit_char, digit_value}
use Rattle.std.specs.Str.Lossy.{utf8_valid_len}
use Rattle.std.proofs.lemmas.Bool.{and_parts, cases_lt}
use Rattle.std.proofs.lemmas.Bool.Decides.{nat_tests}
use Rattle.std.proofs.lemmas.Grind.{flat_map-append}
use Rattle.std.proofs.lemmas.Str.{encode_ascii, digit_value-digit_char}
use Rattle.std.proofs.lemmas.List.{take-append-drop}
use Rattle.std.proofs.lemmas.List.Splits.{slice_split-cons_no}
use lib.Utf8.{scalar, scalars, encode, encodes, low_scalar}
use Rattle.script_words.specs.Words.{Word, Item, character, escape, hexadecimal, IsItem, item_text, item_bytes, is_plain, is_letter, is_hex, is_bare_byte, is_bare, SpellsQuoted, Spells, SpellsTokens, SpellsLine, hex_text, byte_text, is_in_text, quoted_byte, quoted_text, word_text, SpellsToken, printed}
use Rattle.script_words.specs.Inside.Bytes.{AreBytes}
use Rattle.script_words.proofs.Items.{is_high, high_char, high_plain, no_items}
use Rattle.script_words.specs.Lines.{is_line_feed, lines_of, is_skipped}
use Rattle.script_words.proofs.Lined.{first_line}
use Rattle.script_words.proofs.Quoting.{quoted_last, quoted_more}
use Rattle.script_words.proofs.Pieces.{valid_utf8}

-- ---- items one after another

all_items : (xs ys : List Item) → AllByRecursion IsItem xs → AllByRecursion IsItem ys → AllByRecursion IsItem (xs ++ ys)
all_items [] ys h g = g
all_items (x ∷ xs) ys h g = (h.0, all_items xs ys h.1 g)

pub both_quoted : (a b : List ℕ) (w v : Word) → SpellsQuoted a w → SpellsQuoted b v → SpellsQuoted (a ++ b) (w ++ v)
both_quoted a b w v h g = record {
  items = h.items ++ g.items;
  each = all_items h.items g.items h.each g.each;
  inner_is = (λ i. h.inner_is i ++ g.inner_is i) ∙ sym (flat_map-append item_text h.items g.items);
  word_is = (λ i. h.word_is i ++ g.word_is i) ∙ sym (flat_map-append item_bytes h.items g.items);
}

one_item : (item : Item) (text : List ℕ) (word : Word) → IsItem item → item_text item ≡ text → item_bytes item ≡ word → SpellsQuoted text word
one_item item text word h t w = record { items = item ∷ []; each = (h, tt); inner_is = sym t ∙ sym (append-nil (item_text item)); word_is = sym w ∙ sym (append-nil (item_bytes item)) }

-- ---- one byte

hex_char : (d : ℕ) → d < 16 → is_hex (digit_char d) ≡ true
hex_char d h = grind (arith, nat_tests)

pub hex_spells : (b : ℕ) → b < 256 → SpellsQuoted (hex_text b) (b ∷ [])
hex_spells b h =
    let high : b / 16 < 16 = omega arith in
    let low : b % 16 < 16 = omega arith in
    let one = digit_value-digit_char (b / 16) (omega arith) in
    let two = digit_value-digit_char (b % 16) (omega arith) in
    let whole : digit_value (digit_char (b / 16)) * 16 + digit_value (digit_char (b % 16)) ≡ b = rw (one, two) (omega arith) in
    one_item (hexadecimal (digit_char (b / 16)) (digit_char (b % 16))) (hex_text b) (b ∷ []) (hex_char (b / 16) high, hex_char (b % 16) low) refl (ap (λ x. x ∷ []) whole)

-- a byte of ASCII as it is printed between quotes
ascii_spells : (b : ℕ) → b < 128 → SpellsQuoted (byte_text b) (b ∷ [])
ascii_spells b h = by (b == 34 || b == 92) refl (b == 10) refl (b == 9) refl (b == 13) refl (nat_lt b 32 || b == 127) refl
  where
    by : (t : Bool) → (b == 34 || b == 92) ≡ t → (u : Bool) → (b == 10) ≡ u → (v : Bool) → (b == 9) ≡ v → (w : Bool) → (b == 13) ≡ w → (x : Bool) → (nat_lt b 32 || b == 127) ≡ x → SpellsQuoted (byte_text b) (b ∷ [])
    by true e u f v g w k x l =
        let letter : is_letter b ≡ true = grind (arith, nat_tests) in
        let itself : item_bytes (escape b) ≡ b ∷ [] = grind (arith, nat_tests) in
        rw e (one_item (escape b) (92 ∷ b ∷ []) (b ∷ []) letter refl itself)
    by false e true f v g w k x l = let same : 10 ≡ b = grind (arith, nat_tests) in rw (e, f) (one_item (escape 110) (92 ∷ 110 ∷ []) (b ∷ []) refl refl (ap (λ c. c ∷ []) same))
    by false e false f true g w k x l = let same : 9 ≡ b = grind (arith, nat_tests) in rw (e, f, g) (one_item (escape 116) (92 ∷ 116 ∷ []) (b ∷ []) refl refl (ap (λ c. c ∷ []) same))
    by false e false f false g true k x l = let same : 13 ≡ b = grind (arith, nat_tests) in rw (e, f, g, k) (one_item (escape 114) (92 ∷ 114 ∷ []) (b ∷ []) refl refl (ap (λ c. c ∷ []) same))
    by false e false f false g false k true l = rw (e, f, g, k, l) (hex_spells b (omega arith))
    by false e false f false g false k false l =
        let plain : is_plain b ≡ true = grind (arith, nat_tests) in
        rw (e, f, g, k, l) (one_item (character b) (b ∷ []) (b ∷ []) (low_scalar b (omega arith), plain) (encode_ascii b h) (encode_ascii b h))

-- ---- characters

high_text : (b : ℕ) → 128 ≤ b → byte_text b ≡ b ∷ []
high_text b h =
    let quote : (b == 34 || b == 92) ≡ false = grind (arith, nat_tests) in
    let feed : (b == 10) ≡ false = grind (arith, nat_tests) in
    let tab : (b == 9) ≡ false = grind (arith, nat_tests) in
    let return : (b == 13) ≡ false = grind (arith, nat_tests) in
    let control : (nat_lt b 32 || b == 127) ≡ false = grind (arith, nat_tests) in rw (quote, feed, tab, return, control)

high_texts : (xs : List ℕ) → list_all is_high xs ≡ true → flat_map byte_text xs ≡ xs
high_texts [] h = refl
high_texts (x ∷ xs) h =
    let parts = and_parts (is_high x) (list_all is_high xs) h in
    let first = high_text x (grind (arith, nat_tests)) in
    (λ i. first i ++ high_texts xs parts.1 i)

char_spells : (c : ℕ) → scalar c ≡ true → SpellsQuoted (flat_map byte_text (encode c)) (encode c)
char_spells c s = elim (cases_lt c 128) [
  | inl small ↦ rw (encode_ascii c small) (subst (λ text. SpellsQuoted text (c ∷ [])) (sym (append-nil (byte_text c))) (ascii_spells c small))
  | inr big ↦ one_item (character c) (flat_map byte_text (encode c)) (encode c) (s, high_plain c big) (sym (high_texts (encode c) (high_char c big))) refl
]

chars_spell : (cs : List ℕ) → scalars cs ≡ true → SpellsQuoted (flat_map byte_text (encodes cs)) (encodes cs)
chars_spell [] h = no_items
chars_spell (c ∷ cs) h =
    let parts = and_parts (scalar c) (scalars cs) h in
    subst (λ text. SpellsQuoted text (encodes (c ∷ cs))) (sym (flat_map-append byte_text (encode c) (encodes cs)))
    (both_quoted (flat_map byte_text (encode c)) (flat_map byte_text (encodes cs)) (encode c) (encodes cs) (char_spells c parts.0) (chars_spell cs parts.1))

pub utf8_spells : (text : List ℕ) → IsUtf8 text → SpellsQuoted (flat_map byte_text text) text
utf8_spells text u = subst (λ t. SpellsQuoted (flat_map byte_text t) t) u.1.1 (chars_spell u.0 u.1.0)

-- ---- words

bytes_drop : (n : ℕ) (xs : List ℕ) → AreBytes xs → AreBytes (drop n xs)
bytes_drop zero xs h = h
bytes_drop (suc n) [] h = tt
bytes_drop (suc n) (x ∷ xs) h = bytes_drop n xs h.1

-- the bytes up to the end, or up to one that is no part of UTF-8 and after it
spells_from : (word : Word) → AreBytes word → ((rest : List ℕ) → length rest < length word → AreBytes rest → SpellsQuoted (quoted_text rest) rest)
    → (rest : List ℕ) → drop (utf8_valid_len word) word ≡ rest → SpellsQuoted (quoted_text word) word
spells_from word bytes more [] e =
    let valid = take (utf8_valid_len word) word in
    let front = utf8_spells valid (valid_utf8 word) in
    let whole : valid ≡ word = sym (append-nil valid) ∙ ap (λ rest. valid ++ rest) (sym e) ∙ take-append-drop (utf8_valid_len word) word in
    subst (λ text. SpellsQuoted text word) (sym (quoted_last word e)) (subst (SpellsQuoted (flat_map byte_text valid)) whole front)
spells_from word bytes more (b ∷ rest) e =
    let valid = take (utf8_valid_len word) word in
    let front = utf8_spells valid (valid_utf8 word) in
    let left : AreBytes (b ∷ rest) = subst AreBytes e (bytes_drop (utf8_valid_len word) word bytes) in
    let less : length rest < length word = omega (arith, ap length e, length-drop (utf8_valid_len word) word) in
    let after = both_quoted (hex_text b) (quoted_text rest) (b ∷ []) rest (hex_spells b left.0) (more rest less left.1) in
    let all = both_quoted (flat_map byte_text valid) (hex_text b ++ quoted_text rest) valid (b ∷ rest) front after in
    let whole : valid ++ b ∷ rest ≡ word = ap (λ left. valid ++ left) (sym e) ∙ take-append-drop (utf8_valid_len word) word in
    subst (λ text. SpellsQuoted text word) (sym (quoted_more word b rest e))
    (subst (SpellsQuoted (flat_map byte_text valid ++ (hex_text b ++ quoted_text rest))) whole all)

pub quoted_spells : (n : ℕ) (word : Word) → length word ≤ n → AreBytes word → SpellsQuoted (quoted_text word) word
quoted_spells zero word fits bytes = spells_from word bytes (λ rest less b. absurd (omega arith)) (drop (utf8_valid_len word) word) refl
quoted_spells (suc n) word fits bytes = spells_from word bytes (λ rest less b. quoted_spells n rest (omega arith) b) (drop (utf8_valid_len word) word) refl

-- what is printed for the word stands for it
abbrev pub ReadsBack : Word → Type 0
ReadsBack word = SpellsToken (word_text word) (printed word)

pub text_spells : (word : Word) → AreBytes word → ReadsBack word
text_spells word bytes = by (is_bare word) refl
  where
    by : (t : Bool) → is_bare word ≡ t → Spells t (if t then word else 34 ∷ (quoted_text word ++ 34 ∷ [])) word
    by true e = (e, refl)
    by false e = (quoted_text word, refl, quoted_spells (length word) word (let fits : length word ≤ length word = omega arith in fits) bytes)

-- numbers that fit in eight bits are bytes
pub are_bytes : (xs : List ℕ) → ((k : ℕ) → Fits w8 (get_or xs k 0)) → AreBytes xs
are_bytes [] h = tt
are_bytes (x ∷ xs) h = let first : x < 256 = (h 0).fits in (first, are_bytes xs (λ k. h (suc k)))

texts_spell : (words : List Word) → AllByRecursion ReadsBack words → SpellsTokens (map word_text words) (map printed words)
texts_spell [] h = tt
texts_spell (word ∷ words) h = (h.0, texts_spell words h.1)

some_printed : (words : List Word) → words ≢ [] → map printed words ≢ []
some_printed [] n = λ e. n refl
some_printed (word ∷ words) n = λ e. cc

-- the texts of words, with one space between, are a line of them
pub line_spells : (words : List Word) → words ≢ [] → AllByRecursion ReadsBack words → SpellsLine (join_with_byte 32 (map word_text words)) (map printed words)
line_spells words n h = record { texts = map word_text words; line_is = refl; spelled = texts_spell words h; some = some_printed words n }

-- ---- no line feed

abbrev pub has_no_line_feed : List ℕ → Bool
has_no_line_feed bytes = list_all (λ b. not (b == 10)) bytes

feeds_append : (xs ys : List ℕ) → has_no_line_feed xs ≡ true → has_no_line_feed ys ≡ true → has_no_line_feed (xs ++ ys) ≡ true
feeds_append [] ys h g = g
feeds_append (x ∷ xs) ys h g =
    let parts = and_parts (not (x == 10)) (has_no_line_feed xs) h in
    let rest = feeds_append xs ys parts.1 g in rw (parts.0, rest)

digit_no_feed : (d : ℕ) → not (digit_char d == 10) ≡ true
digit_no_feed d = grind (arith, nat_tests)

hex_no_feed : (b : ℕ) → has_no_line_feed (hex_text b) ≡ true
hex_no_feed b = rw (digit_no_feed (b / 16), digit_no_feed (b % 16))

byte_no_feed : (b : ℕ) → has_no_line_feed (byte_text b) ≡ true
byte_no_feed b = by (b == 34 || b == 92) refl (b == 10) refl (b == 9) refl (b == 13) refl (nat_lt b 32 || b == 127) refl
  where
    by : (t : Bool) → (b == 34 || b == 92) ≡ t → (u : Bool) → (b == 10) ≡ u → (v : Bool) → (b == 9) ≡ v → (w : Bool) → (b == 13) ≡ w → (x : Bool) → (nat_lt b 32 || b == 127) ≡ x → has_no_line_feed (byte_text b) ≡ true
    by true e u f v g w k x l = let no : (b == 10) ≡ false = grind (arith, nat_tests) in rw e (rw no)
    by false e true f v g w k x l = rw (e, f)
    by false e false f true g w k x l = rw (e, f, g)
    by false e false f false g true k x l = rw (e, f, g, k)
    by false e false f false g false k true l = rw (e, f, g, k, l) (hex_no_feed b)
    by false e false f false g false k false l = rw (e, f, g, k, l) (rw f)

bytes_no_feed : (xs : List ℕ) → has_no_line_feed (flat_map byte_text xs) ≡ true
bytes_no_feed [] = refl
bytes_no_feed (x ∷ xs) = feeds_append (byte_text x) (flat_map byte_text xs) (byte_no_feed x) (bytes_no_feed xs)

quoted_no_feed : (word : Word) (places : List (ℕ × ℕ)) → has_no_line_feed (flat_map (quoted_byte word) places) ≡ true
quoted_no_feed word [] = refl
quoted_no_feed word (at ∷ places) = feeds_append (quoted_byte word at) (flat_map (quoted_byte word) places) (by (is_in_text word at.0)) (quoted_no_feed word places)
  where
    by : (t : Bool) → has_no_line_feed (if t then byte_text at.1 else hex_text at.1) ≡ true
    by true = byte_no_feed at.1
    by false = hex_no_feed at.1

bare_no_feed : (word : Word) → list_all is_bare_byte word ≡ true → has_no_line_feed word ≡ true
bare_no_feed [] h = refl
bare_no_feed (b ∷ bytes) h =
    let parts = and_parts (is_bare_byte b) (list_all is_bare_byte bytes) h in
    let first : not (b == 10) ≡ true = grind (arith, nat_tests) in
    let rest = bare_no_feed bytes parts.1 in rw (first, rest)

-- the text of a word has no line feed
pub text_no_feed : (word : Word) → has_no_line_feed (word_text word) ≡ true
text_no_feed word = by (is_bare word) refl
  where
    by : (t : Bool) → is_bare word ≡ t → has_no_line_feed (if t then word else 34 ∷ (quoted_text word ++ 34 ∷ [])) ≡ true
    by true e = bare_no_feed word (and_parts (nat_le 1 (length word)) (list_all is_bare_byte word) e).1
    by false e = feeds_append (quoted_text word) (34 ∷ []) (quoted_no_feed word (enumerate_from 0 word)) refl

-- nor has a line of words
pub line_no_feed : (words : List Word) → has_no_line_feed (join_with_byte 32 (map word_text words)) ≡ true
line_no_feed [] = refl
line_no_feed (word ∷ []) = text_no_feed word
line_no_feed (word ∷ next ∷ words) = feeds_append (word_text word) (32 ∷ join_with_byte 32 (map word_text (next ∷ words))) (text_no_feed word) (line_no_feed (next ∷ words))

-- ---- lines joined each with its end

no_feed : (b : ℕ) → not (b == 10) ≡ true → is_line_feed b ≡ false
no_feed b h = grind (arith, nat_tests)

pub split_line : (line rest : List ℕ) → has_no_line_feed line ≡ true → slice_split is_line_feed (line ++ 10 ∷ rest) ≡ line ∷ slice_split is_line_feed rest
split_line [] rest h = refl
split_line (b ∷ bytes) rest h =
    let parts = and_parts (not (b == 10)) (has_no_line_feed bytes) h in
    slice_split-cons_no is_line_feed b (bytes ++ 10 ∷ rest) (no_feed b parts.0) ∙ ap (onto_first b) (split_line bytes rest parts.1)

-- a text of lines without line feeds, each with its end, has these lines
pub lines_back : (lines : List (List ℕ)) → AllByRecursion (λ line. IsTrue (has_no_line_feed line)) lines → lines_of (flat_map (λ line. line ++ 10 ∷ []) lines) ≡ lines
lines_back [] h = refl
lines_back (line ∷ lines) h =
    let rest = flat_map (λ line. line ++ 10 ∷ []) lines in
    ap lines_of (append_assoc line (10 ∷ []) rest)
    ∙ first_line (line ++ 10 ∷ rest) line rest (split_line line rest h.0)
    ∙ ap (λ more. line ∷ more) (lines_back lines h.1)

-- a line of words isn't skipped where its first word is bare and doesn't begin with `#`
pub line_kept : (word : Word) (words : List Word) → is_bare word ≡ true → is_skipped word ≡ false → is_skipped (join_with_byte 32 (map word_text (word ∷ words))) ≡ false
line_kept word [] h g = rw h g
line_kept word (next ∷ words) h g = rw h (by word g)
  where
    by : (front : Word) → is_skipped front ≡ false → is_skipped (front ++ 32 ∷ join_with_byte 32 (map word_text (next ∷ words))) ≡ false
    by [] e = cc
    by (b ∷ bytes) e = e
