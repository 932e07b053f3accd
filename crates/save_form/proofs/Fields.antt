-- Numbers and texts.
use Rattle.std.proofs.Common.{◌≡◌, ℕ, ◌+◌, ◌^◌, ◌%◌, ◌<◌, ◌≤◌, Bool, true, false, List, [], ◌∷◌, ◌++◌, length, take, drop, Ok, Err, refl, sym, ap, ap₂, subst, lit<, mod-lt, ◌∙◌, append_assoc, arith, length-append}
use Rattle.std.specs.Prelude.{bytes_eq}
use Rattle.std.proofs.lemmas.Slice.Eq.{bytes_eq-Decides}
use Rattle.std.proofs.lemmas.List.{take-append-drop, take_at, drop_at, length-take}
use Rattle.std.proofs.Math.Nat.{one-le-pow, mod-le}
use Rattle.byteorder.specs.Endian.{big_number}
use Rattle.byteorder.specs.Numbers.{big_number-reads_back, big_from-bytes}
use Rattle.ws_wire.specs.Fields.{Input, Takes, number_field, text_field, text_size}
use Rattle.ws_wire.proofs.Laws.{length-number_field}
use Rattle.save_form.specs.declared.stop.Stop.TheVariants.{Short}
use Rattle.save_form.specs.Forms.{behind, read_field, number, text_meant, text}
use Rattle.save_form.specs.Laws.{Lawful}
use Rattle.save_form.proofs.Steps.{test_ok, taken_read}

-- ---- fields that their bytes mean

field_takes : {A : Type 0} (spell : A → List ℕ) (meant : List ℕ → A) (i j : Input) (a : A) → read_field spell meant i ≡ Ok (a, j) → Takes i (spell a) j × (a ≡ meant i.left)
field_takes {A = A} spell meant i j a e =
    let bytes = spell (meant i.left) in
    let p = test_ok (bytes_eq bytes (take (length bytes) i.left)) (Short i.at) (meant i.left, behind (length bytes) i) (a, j) e in
    let front : bytes ≡ take (length bytes) i.left = (bytes_eq-Decides bytes (take (length bytes) i.left)).0 p.0 in
    let parts : i.left ≡ bytes ++ drop (length bytes) i.left = sym (ap (λ (x : List ℕ). x ++ drop (length bytes) i.left) front ∙ take-append-drop (length bytes) i.left) in
    subst (λ (x : A × Input). Takes i (spell x.0) x.1 × (x.0 ≡ meant i.left)) p.1 (record { bytes = parts; at = refl }, refl)

field_again : {A : Type 0} (spell : A → List ℕ) (meant : List ℕ → A) (at : ℕ) (a : A) (rest : List ℕ) → meant (spell a ++ rest) ≡ a
    → read_field spell meant (record { at = at; left = spell a ++ rest }) ≡ Ok (a, record { at = at + length (spell a); left = rest })
field_again {A = A} spell meant at a rest back =
    let same : take (length (spell a)) (spell a ++ rest) ≡ spell a = take_at (spell a) rest (length (spell a)) refl in
    let passed : bytes_eq (spell a) (spell a) ≡ true = (bytes_eq-Decides (spell a) (spell a)).1 refl in
    let left : drop (length (spell a)) (spell a ++ rest) ≡ rest = drop_at (spell a) rest (length (spell a)) refl in
    rw (back, same, passed, left) refl

-- where the spelling of what they mean isn't at the front, bytes are too few
field_short_true : {A : Type 0} (spell : A → List ℕ) (meant : List ℕ → A) (i : Input) → true ≡ bytes_eq (spell (meant i.left)) (take (length (spell (meant i.left))) i.left)
    → ((more : List ℕ) → i.left ≡ spell (meant i.left) ++ more → ⊥) → read_field spell meant i ≡ Err (Short i.at)
field_short_true spell meant i e never =
    let bytes = spell (meant i.left) in
    let front : bytes ≡ take (length bytes) i.left = (bytes_eq-Decides bytes (take (length bytes) i.left)).0 (sym e) in
    absurd (never (drop (length bytes) i.left) (sym (ap (λ (x : List ℕ). x ++ drop (length bytes) i.left) front ∙ take-append-drop (length bytes) i.left)))

field_short : {A : Type 0} (spell : A → List ℕ) (meant : List ℕ → A) (i : Input) (b : Bool) → b ≡ bytes_eq (spell (meant i.left)) (take (length (spell (meant i.left))) i.left)
    → ((more : List ℕ) → i.left ≡ spell (meant i.left) ++ more → ⊥) → read_field spell meant i ≡ Err (Short i.at)
field_short {A = A} spell meant i b e never =
    elim b as (λ (v : Bool). v ≡ bytes_eq (spell (meant i.left)) (take (length (spell (meant i.left))) i.left) → read_field spell meant i ≡ Err (Short i.at)) [
      | true ↦ λ f. field_short_true spell meant i f never
      | false ↦ λ f. rw (← f) refl
    ] e

-- ---- numbers

number_small : (width : ℕ) (left more : List ℕ) → left ≡ number_field width (big_number width left) ++ more → big_number width left < 256 ^ width
unfolding number_field
number_small width left more e =
    let n = big_number width left in
    let same : n ≡ n % 256 ^ width = ap (big_number width) e ∙ big_from-bytes width n more in
    let positive : 0 < 256 ^ width = omega (arith, one-le-pow width 256 (omega arith)) in
    subst (λ (x : ℕ). x < 256 ^ width) (sym same) (mod-lt n positive)

number_meant : (width n : ℕ) (rest : List ℕ) → n < 256 ^ width → big_number width (number_field width n ++ rest) ≡ n
unfolding number_field
number_meant width n rest small = big_number-reads_back width n rest small

number_modulo : (width n : ℕ) (rest : List ℕ) → big_number width (number_field width n ++ rest) ≡ n % 256 ^ width
unfolding number_field
number_modulo width n rest = big_from-bytes width n rest

pub number_lawful : (width : ℕ) → Lawful (λ n. n < 256 ^ width) (number width)
unfolding number
number_lawful width = record {
  takes = λ i j n e.
      let p = field_takes (number_field width) (big_number width) i j n e in
      let e2 : i.left ≡ number_field width (big_number width i.left) ++ j.left = p.0.bytes ∙ ap (λ (m : ℕ). number_field width m ++ j.left) p.1 in
      (p.0, subst (λ (m : ℕ). m < 256 ^ width) (sym p.1) (number_small width i.left j.left e2));
  again = λ at n rest fit. field_again (number_field width) (big_number width) at n rest (number_meant width n rest fit);
}

pub number_short : (width : ℕ) (i : Input) → length i.left < width → (number width).read i ≡ Err (Short i.at)
unfolding number
number_short width i few = field_short (number_field width) (big_number width) i _ refl λ more e.
    let n = big_number width i.left in
    absurd (omega (arith, ap length e, length-append (number_field width n) more, length-number_field width n))

-- ---- texts

text_meant_again : (t rest : List ℕ) → length t < 2 ^ 32 → text_meant (text_field t ++ rest) ≡ t
unfolding text_field
text_meant_again t rest small =
    let regrouped : text_field t ++ rest ≡ number_field 4 (length t) ++ (t ++ rest) = append_assoc (number_field 4 (length t)) t rest in
    let len : big_number 4 (number_field 4 (length t) ++ (t ++ rest)) ≡ length t = number_meant 4 (length t) (t ++ rest) small in
    let left : drop 4 (number_field 4 (length t) ++ (t ++ rest)) ≡ t ++ rest = drop_at (number_field 4 (length t)) (t ++ rest) 4 (length-number_field 4 (length t)) in
    ap text_meant regrouped ∙ ap₂ (λ (n : ℕ) (x : List ℕ). take n x) len left ∙ take_at t rest (length t) refl

text_small : (left t more : List ℕ) → t ≡ text_meant left → left ≡ text_field t ++ more → length t < 2 ^ 32
unfolding text_field
text_small left t more e front =
    let bound : length t ≤ big_number 4 left = subst (λ (x : List ℕ). length x ≤ big_number 4 left) (sym e) (omega (arith, length-take (big_number 4 left) (drop 4 left))) in
    let regrouped : left ≡ number_field 4 (length t) ++ (t ++ more) = front ∙ append_assoc (number_field 4 (length t)) t more in
    let n_is : big_number 4 left ≡ length t % 256 ^ 4 = ap (big_number 4) regrouped ∙ number_modulo 4 (length t) (t ++ more) in
    let positive : 0 < 256 ^ 4 = lit< tt in
    let small : length t % 256 ^ 4 < 256 ^ 4 = mod-lt (length t) positive in
    omega arith

pub text_lawful : Lawful (λ (t : List ℕ). length t < 2 ^ 32) text
unfolding text
text_lawful = record {
  takes = λ i j t e. let p = field_takes text_field text_meant i j t e in (p.0, text_small i.left t j.left p.1 p.0.bytes);
  again = λ at t rest fit. field_again text_field text_meant at t rest (text_meant_again t rest fit);
}

text_held : (left t more : List ℕ) → t ≡ text_meant left → left ≡ text_field t ++ more → text_size left ≤ length left
unfolding text_field text_size
text_held left t more e front =
    let bound : length t ≤ big_number 4 left = subst (λ (x : List ℕ). length x ≤ big_number 4 left) (sym e) (omega (arith, length-take (big_number 4 left) (drop 4 left))) in
    let regrouped : left ≡ number_field 4 (length t) ++ (t ++ more) = front ∙ append_assoc (number_field 4 (length t)) t more in
    let n_is : big_number 4 left ≡ length t % 256 ^ 4 = ap (big_number 4) regrouped ∙ number_modulo 4 (length t) (t ++ more) in
    let le : length t % 256 ^ 4 ≤ length t = mod-le (length t) (256 ^ 4) in
    let whole = ap length regrouped in
    omega (arith, length-append (number_field 4 (length t)) (t ++ more), length-append t more, length-number_field 4 (length t))

pub text_short : (i : Input) → length i.left < text_size i.left → text.read i ≡ Err (Short i.at)
unfolding text
text_short i few = field_short text_field text_meant i _ refl λ more e.
    let held = text_held i.left (text_meant i.left) more refl e in absurd (omega arith)

-- ---- what a field that `In` took is read as

pub number_given : (width n : ℕ) (i j : Input) → Takes i (number_field width n) j → n < 256 ^ width → (number width).read i ≡ Ok (n, j)
unfolding number
number_given width n i j takes small = taken_read (λ n. n < 256 ^ width) (number width) (number_lawful width) i j n takes small

one_byte : (n : ℕ) → n < 256 → n ∷ [] ≡ number_field 1 n
unfolding number_field
one_byte n small = let same : n ≡ n % 256 = omega arith in ap (λ (m : ℕ). m ∷ []) same

pub byte_given : (n : ℕ) (i j : Input) → n < 256 → Takes i (n ∷ []) j → (number 1).read i ≡ Ok (n, j)
byte_given n i j small takes = number_given 1 n i j (subst (λ (x : List ℕ). Takes i x j) (one_byte n small) takes) small

pub text_given : (t : List ℕ) (i j : Input) → Takes i (text_field t) j → length t < 2 ^ 32 → text.read i ≡ Ok (t, j)
unfolding text
text_given t i j takes small = taken_read (λ t. length t < 2 ^ 32) text text_lawful i j t takes small

pub ruleset given = (byte_given, number_given, number_short, text_given, text_short)
