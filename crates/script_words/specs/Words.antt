-- Words, how a line spells them, and how they are printed.
use Rattle.std.specs.Prelude.{◌≡◌, ◌≢◌, ℕ, suc, ◌+◌, ◌*◌, ◌/◌, ◌%◌, Bool, true, false, not, ◌&&◌, ◌||◌, ◌==◌, nat_le, nat_lt, if◌then◌else◌, List, [], ◌∷◌, ◌++◌, length, drop, IsTrue}
use Rattle.std.specs.List.{list_all, list_any, flat_map, enumerate_from, range_with_len, join_with_byte, AllByRecursion}
use Rattle.std.specs.Char.{encode_utf8, IsScalar, digit_value, digit_char}
use Rattle.std.specs.Str.Lossy.{utf8_valid_len}
-- a word as it stands in a line: whether it stands bare, and the bytes that it denotes
pub use Rattle.script_words.specs.declared.words.Token.{Token}

-- a word, as the bytes that it denotes
abbrev pub Word : Type 0
Word = List ℕ

-- ---- bare words

-- a visible byte of ASCII other than the quote
abbrev pub is_bare_byte : ℕ → Bool
is_bare_byte b = nat_le 33 b && nat_le b 126 && not (b == 34)

-- one or more such bytes
abbrev pub is_bare : List ℕ → Bool
is_bare text = nat_le 1 (length text) && list_all is_bare_byte text

-- ---- quoted words

-- no quote, no backslash and no control character of ASCII
abbrev pub is_plain : ℕ → Bool
is_plain c = nat_le 32 c && not (c == 34) && not (c == 92) && not (c == 127)

-- the letters that may follow a backslash: `"`, the backslash, `n`, `t` and `r`
abbrev pub is_letter : ℕ → Bool
is_letter e = e == 34 || e == 92 || e == 110 || e == 116 || e == 114

-- the byte that such a letter stands for: LF, tab and CR, and each of the others for itself
abbrev pub letter_byte : ℕ → ℕ
letter_byte e = if e == 110 then 10 else (if e == 116 then 9 else (if e == 114 then 13 else e))

-- a hexadecimal digit in lower case
abbrev pub is_hex : ℕ → Bool
is_hex d = nat_le 48 d && nat_le d 57 || nat_le 97 d && nat_le d 102

-- what stands between the quotes, one by one: a character as it is, an escape with its letter, or `\x` with two digits
pub data Item : Type 0 where
  character : ℕ → Item
  escape : ℕ → Item
  hexadecimal : ℕ → ℕ → Item

abbrev pub IsItem : Item → Type 0
IsItem (character c) = IsScalar c × IsTrue (is_plain c)
IsItem (escape letter) = IsTrue (is_letter letter)
IsItem (hexadecimal high low) = IsTrue (is_hex high) × IsTrue (is_hex low)

abbrev pub item_text : Item → List ℕ
item_text (character c) = encode_utf8 c
item_text (escape letter) = 92 ∷ letter ∷ []
item_text (hexadecimal high low) = 92 ∷ 120 ∷ high ∷ low ∷ []

-- the bytes that an item denotes
abbrev pub item_bytes : Item → List ℕ
item_bytes (character c) = encode_utf8 c
item_bytes (escape letter) = letter_byte letter ∷ []
item_bytes (hexadecimal high low) = (digit_value high * 16 + digit_value low) ∷ []

-- items that stand between quotes denote the word
pub record SpellsQuoted (inner : List ℕ) (word : Word) : Type 0 where
  pub items : List Item
  pub each : AllByRecursion IsItem items
  pub inner_is : inner ≡ flat_map item_text items
  pub word_is : word ≡ flat_map item_bytes items

-- ---- lines of words

abbrev pub Spells : Bool → List ℕ → Word → Type 0
Spells true text word = IsTrue (is_bare text) × (text ≡ word)
Spells false text word = (inner : List ℕ) × (text ≡ 34 ∷ (inner ++ 34 ∷ [])) × SpellsQuoted inner word

-- the text stands for the token: a bare word for itself, a quoted one for what its items denote
abbrev pub SpellsToken : List ℕ → Token → Type 0
SpellsToken text token = Spells token.bare text token.word

-- the texts stand for the tokens, one by one
abbrev pub SpellsTokens : List (List ℕ) → List Token → Type 0
SpellsTokens [] [] = Unit {0}
SpellsTokens (text ∷ texts) (token ∷ tokens) = SpellsToken text token × SpellsTokens texts tokens
SpellsTokens [] (token ∷ tokens) = ⊥
SpellsTokens (text ∷ texts) [] = ⊥

-- the line is the texts of one or more tokens, with one space between
pub record SpellsLine (line : List ℕ) (tokens : List Token) : Type 0 where
  pub texts : List (List ℕ)
  pub line_is : line ≡ join_with_byte 32 texts
  pub spelled : SpellsTokens texts tokens
  pub some : tokens ≢ []

-- ---- how a word is printed

-- a byte's two hexadecimal digits, in lower case
abbrev pub two_digits : ℕ → List ℕ
two_digits b = digit_char (b / 16) ∷ digit_char (b % 16) ∷ []

-- a byte by its two digits
abbrev pub hex_text : ℕ → List ℕ
hex_text b = 92 ∷ 120 ∷ two_digits b

-- a byte of UTF-8 between quotes: a quote and a backslash are escaped, LF, tab and CR have their letters, and any other
-- control character of ASCII its digits
abbrev pub byte_text : ℕ → List ℕ
byte_text b = if b == 34 || b == 92 then 92 ∷ b ∷ []
    else (if b == 10 then 92 ∷ 110 ∷ []
    else (if b == 9 then 92 ∷ 116 ∷ []
    else (if b == 13 then 92 ∷ 114 ∷ []
    else (if nat_lt b 32 || b == 127 then hex_text b else b ∷ []))))

-- the byte at this place is part of valid UTF-8: a text in UTF-8 that begins at the place, or before it, goes on past it
abbrev pub is_in_text : Word → ℕ → Bool
is_in_text word place = list_any (λ start. nat_lt place (start + utf8_valid_len (drop start word))) (range_with_len 0 (suc place))

-- a place and its byte between quotes: by its two digits where it is no part of valid UTF-8
abbrev pub quoted_byte : Word → ℕ × ℕ → List ℕ
quoted_byte word at = if is_in_text word at.0 then byte_text at.1 else hex_text at.1

-- bytes between quotes
abbrev pub quoted_text : Word → List ℕ
quoted_text word = flat_map (quoted_byte word) (enumerate_from 0 word)

-- bare where it can be, and else quoted
abbrev pub word_text : Word → List ℕ
word_text word = if is_bare word then word else 34 ∷ (quoted_text word ++ 34 ∷ [])

-- the token as which a word is printed
abbrev pub printed : Word → Token
printed word = record { bare = is_bare word; word = word }

-- a text was appended that stands for the word
pub record SpellsMore (old : List ℕ) (word : Word) (new : List ℕ) : Type 0 where
  pub text : List ℕ
  pub new_is : new ≡ old ++ text
  pub spelled : SpellsToken text (printed word)

-- bytes were appended, and what stood there before stays in front
pub record Grows (old new : List ℕ) : Type 0 where
  pub more : List ℕ
  pub new_is : new ≡ old ++ more
