-- The texts of numbers.
use Rattle.std.proofs.Common.{◌≡◌, ◌≢◌, ℕ, suc, ◌^◌, ◌<◌, true, false, ◌&&◌, nat_le, List, [], ◌∷◌, length, get_or, Result, Ok, ℤ, pos, negsuc, decimal, IsUtf8, FitsSigned, refl, ◌∙◌, ap, arith}
use Rattle.std.specs.Prelude.{neg_ℤ}
use Rattle.std.specs.Int.{w32}
use Rattle.std.specs.Int.Signed.{mag}
use Rattle.std.specs.Fmt.{signed_decimal}
use Rattle.std.specs.List.{list_all}
use Rattle.std.specs.Char.{digit_value}
use Rattle.std.specs.Str.Parse.{AllDigits, digits_value, signed_digits_value, starts_with_minus, without_leading_sign, ParsesUnsigned, ParsesSigned}
use Rattle.std.proofs.lemmas.Fmt.{decimal_is_IsNumeral, IsAscii-decimal, IsAscii-signed, parse-decimal, parse-signed_decimal}
use Rattle.std.proofs.lemmas.Str.{IsUtf8-from_ascii}
use Rattle.std.proofs.lemmas.Str.Parse.{digit_from_value, digit_at, without_leading_plus_none}
use Rattle.std.proofs.lemmas.Bool.Decides.{nat_tests}
use Rattle.script_words.specs.Words.{is_bare_byte, is_bare}

mag_small : (z : ℤ) → FitsSigned w32 z → mag z < 2 ^ 63
mag_small z f = omega (arith, f.sfits)

-- ---- numbers are UTF-8, and can stand bare

pub utf8_decimal : (n : ℕ) → n < 2 ^ 64 → IsUtf8 (decimal n)
utf8_decimal n h = IsUtf8-from_ascii (decimal n) (IsAscii-decimal n h)

pub utf8_signed : (z : ℤ) → FitsSigned w32 z → IsUtf8 (signed_decimal z)
utf8_signed z f = IsUtf8-from_ascii (signed_decimal z) (IsAscii-signed z (mag_small z f))

bare_digit : (d : ℕ) → digit_value d < 10 → is_bare_byte d ≡ true
bare_digit d h = let within = digit_from_value d h in grind (arith, nat_tests, within)

bare_digits : (ds : List ℕ) → AllDigits 10 ds → list_all is_bare_byte ds ≡ true
bare_digits [] h = refl
bare_digits (d ∷ ds) h = (λ i. bare_digit d h.0 i && bare_digits ds h.1 i)

some_bare : (text : List ℕ) → 0 < length text → list_all is_bare_byte text ≡ true → is_bare text ≡ true
some_bare [] l h = absurd (omega (arith, l))
some_bare (b ∷ text) l h = let some : nat_le 1 (length (b ∷ text)) ≡ true = grind (arith, nat_tests) in (λ i. some i && h i)

pub bare_decimal : (n : ℕ) → n < 2 ^ 64 → is_bare (decimal n) ≡ true
bare_decimal n h = let numeral = (decimal_is_IsNumeral n h).0 in some_bare (decimal n) numeral.0 (bare_digits (decimal n) numeral.1)

pub bare_signed : (z : ℤ) → FitsSigned w32 z → is_bare (signed_decimal z) ≡ true
bare_signed (pos n) f = bare_decimal n (let small = mag_small (pos n) f in omega (arith, small))
bare_signed (negsuc n) f =
    let small = mag_small (negsuc n) f in
    let numeral = (decimal_is_IsNumeral (suc n) (omega (arith, small))).0 in
    some_bare (signed_decimal (negsuc n)) (omega arith) (bare_digits (decimal (suc n)) numeral.1)

-- ---- what they are read as

pub number_back : (n : ℕ) → n < 2 ^ 64 → digits_value 10 (decimal n) ≡ n
number_back n h = (decimal_is_IsNumeral n h).1

pub integer_back : (z : ℤ) → FitsSigned w32 z → signed_digits_value 10 (signed_decimal z) ≡ z
integer_back (negsuc n) f =
    let small = mag_small (negsuc n) f in
    ap (λ (m : ℕ). neg_ℤ (pos m)) (number_back (suc n) (omega (arith, small)))
integer_back (pos n) f =
    let small = mag_small (pos n) f in
    let fits : n < 2 ^ 64 = omega (arith, small) in
    let numeral = (decimal_is_IsNumeral n fits).0 in
    let first = digit_at (decimal n) 0 numeral.1 numeral.0 in
    let plain : starts_with_minus (decimal n) ≡ false = grind (arith, nat_tests, first) in
    let unsigned : get_or (decimal n) 0 0 ≢ 43 = grind (arith, first) in
    let whole : without_leading_sign (decimal n) ≡ decimal n = rw plain (without_leading_plus_none (decimal n) unsigned) in
    rw plain (ap pos (ap (digits_value 10) (without_leading_plus_none (decimal n) unsigned) ∙ number_back n fits))

pub parsed_number : {E : Type 0} (word : List ℕ) (result : Result ℕ E) → ParsesUnsigned 64 10 word result → (n : ℕ) → n < 2 ^ 64 → word ≡ decimal n → result ≡ Ok n
parsed_number word result p n h e = parse-decimal 64 n word result h h e p

pub parsed_integer : {E : Type 0} (word : List ℕ) (result : Result ℤ E) → ParsesSigned w32 10 word result → (z : ℤ) → FitsSigned w32 z → word ≡ signed_decimal z → result ≡ Ok z
parsed_integer word result p z f e = parse-signed_decimal w32 z word result f (mag_small z f) e p

pub ok_same : {T E : Type 0} (x y : T) → ◌≡◌ {A = Result T E} (Ok x) (Ok y) → x ≡ y
ok_same x y e = cc
