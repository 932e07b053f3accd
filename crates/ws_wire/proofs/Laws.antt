-- What the fields of Fields keep: their lengths, and that bytes begin with one field of a kind at most.
use Rattle.std.proofs.Common.{◌≡◌, ℕ, ◌+◌, ◌^◌, ◌<◌, List, ◌++◌, length, drop, take, refl, sym, ap, ◌∙◌, arith, append_assoc, length-append}
use Rattle.std.proofs.Math.Seq.{take-append_seam, drop-append_seam}
use Rattle.byteorder.specs.Endian.{big_number}
use Rattle.byteorder.specs.Numbers.{big_number-reads_back, length-bytes_high_first}
use Rattle.ws_wire.specs.Fields.{number_field, text_field}

pub length-number_field : (width n : ℕ) → length (number_field width n) ≡ width
unfolding number_field
length-number_field width n = length-bytes_high_first width n

pub length-text_field : (text : List ℕ) → length (text_field text) ≡ 4 + length text
unfolding text_field
length-text_field text = omega (arith, length-append (number_field 4 (length text)) text, length-number_field 4 (length text))

-- of two fields of one length at the front the first part is the same, and the rest too
pub same_parts : (a b xs ys : List ℕ) → length a ≡ length b → a ++ xs ≡ b ++ ys → (a ≡ b) × (xs ≡ ys)
same_parts a b xs ys len e =
    let front : take (length a) (a ++ xs) ≡ take (length b) (b ++ ys) = rw (e, len) refl in
    let back : drop (length a) (a ++ xs) ≡ drop (length b) (b ++ ys) = rw (e, len) refl in
    (sym (take-append_seam a xs) ∙ front ∙ take-append_seam b ys, sym (drop-append_seam a xs) ∙ back ∙ drop-append_seam b ys)

-- bytes begin with one number at most
pub number_back : (width n m : ℕ) (xs ys : List ℕ) → n < 256 ^ width → m < 256 ^ width → number_field width n ++ xs ≡ number_field width m ++ ys → (n ≡ m) × (xs ≡ ys)
unfolding number_field
number_back width n m xs ys small_n small_m e = (
  sym (big_number-reads_back width n xs small_n) ∙ ap (big_number width) e ∙ big_number-reads_back width m ys small_m,
  (same_parts (number_field width n) (number_field width m) xs ys (length-number_field width n ∙ sym (length-number_field width m)) e).1,
)

-- bytes begin with one text at most
pub text_back : (s t xs ys : List ℕ) → length s < 2 ^ 32 → length t < 2 ^ 32 → text_field s ++ xs ≡ text_field t ++ ys → (s ≡ t) × (xs ≡ ys)
unfolding text_field
text_back s t xs ys short_s short_t e =
    let regrouped : number_field 4 (length s) ++ (s ++ xs) ≡ number_field 4 (length t) ++ (t ++ ys) =
    sym (append_assoc (number_field 4 (length s)) s xs) ∙ e ∙ append_assoc (number_field 4 (length t)) t ys in
    let parts = number_back 4 (length s) (length t) (s ++ xs) (t ++ ys) short_s short_t regrouped in
    same_parts s t xs ys parts.0 parts.1

-- what bytes that begin with a field tell of it
pub ruleset numbers = (length-number_field, number_back)

pub ruleset texts = (length-number_field, length-text_field, number_back, text_back)
