-- The number that a word is in decimal.
use Rattle.std.proofs.Common.{◌≡◌, ℕ, ◌<◌, Bool, ◌&&◌, nat_lt, List, Some, None, Result, Ok, decimal, sym, ◌∙◌, ap, arith}
use Rattle.std.specs.Bool.{Decides}
use Rattle.std.specs.Str.{bytes_eq}
use Rattle.std.specs.Str.Parse.{digits_value, ParsesUnsigned}
use Rattle.std.proofs.lemmas.Bool.{cond-true, cond-false, false_from_ne_true}
use Rattle.std.proofs.lemmas.Bool.Decides.{Decides-and, Decides-ltb}
use Rattle.std.proofs.lemmas.Fmt.{decimal_is_IsNumeral, parse-decimal}
use Rattle.std.proofs.lemmas.Slice.Eq.{bytes_eq-Decides}
use Rattle.run_words.specs.Forms.{number_of}

abbrev is_decimal : List ℕ → ℕ → Bool
is_decimal word n = bytes_eq word (decimal n) && nat_lt n 1000000000

decimal_decides : (word : List ℕ) (n : ℕ) → Decides (is_decimal word n) ((word ≡ decimal n) × (n < 1000000000))
decimal_decides word n = Decides-and (bytes_eq word (decimal n)) (nat_lt n 1000000000) (bytes_eq-Decides word (decimal n)) (Decides-ltb n 1000000000)

-- it is the one of which the word is the decimal
pub number_told : (word : List ℕ) (n : ℕ) → n < 1000000000 → word ≡ decimal n → number_of word ≡ Some n
unfolding number_of
number_told word n small is =
    let value : digits_value 10 word ≡ n = ap (digits_value 10) is ∙ (decimal_is_IsNumeral n (omega (arith, small))).1 in
    let v = digits_value 10 word in
    cond-true (is_decimal word v) (Some v) None ((decimal_decides word v).1 (is ∙ ap decimal (sym value), omega (arith, value, small))) ∙ ap Some value

-- a word that is the decimal of none has none
pub number_none : (word : List ℕ) → ((n : ℕ) → n < 1000000000 → word ≡ decimal n → ⊥) → number_of word ≡ None
unfolding number_of
number_none word never =
    let v = digits_value 10 word in
    cond-false (is_decimal word v) (Some v) None (false_from_ne_true (is_decimal word v) (λ e. let is = (decimal_decides word v).0 e in never v is.1 is.0))

-- what `parse` reads of a number's decimal
pub number_read : {E : Type 0} (word : List ℕ) (result : Result ℕ E) (n : ℕ) → ParsesUnsigned 32 10 word result → n < 1000000000 → word ≡ decimal n → result ≡ Ok n
number_read word result n parses small is = parse-decimal 32 n word result (omega (arith, small)) (omega (arith, small)) is parses

pub ok_same : {T E : Type 0} (x y : T) → ◌≡◌ {A = Result T E} (Ok x) (Ok y) → x ≡ y
ok_same x y e = cc
