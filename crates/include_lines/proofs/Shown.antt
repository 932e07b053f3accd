-- How bytes are shown.
use Rattle.std.proofs.Common.{◌≡◌, ℕ, zero, suc, ◌+◌, ◌<◌, ◌≤◌, ◌⊎◌, inl, inr, List, [], ◌∷◌, ◌++◌, length, take, drop, refl, sym, ap, ◌∙◌, arith, length-drop}
use Rattle.std.specs.Str.{IsUtf8}
use Rattle.std.specs.Str.Lossy.{utf8_valid_len}
use Rattle.std.proofs.Math.Seq.{take-length}
use Rattle.std.proofs.lemmas.List.{length-take-le}
use Rattle.std.proofs.lemmas.Str.{utf8_valid_len-IsUtf8, utf8_valid_len_le}
use Rattle.std.proofs.lemmas.Bool.{eq-eqb, ne_eqb, cases_lt}
use Rattle.include_lines.specs.Messages.{text_front, readable_within, readable}

-- all of what is UTF-8
pub all_text : (bytes : List ℕ) → IsUtf8 bytes → text_front bytes ≡ bytes
all_text bytes u = ap (λ n. take n bytes) (utf8_valid_len-IsUtf8 bytes u) ∙ take-length bytes

front_length : (bytes : List ℕ) → length (text_front bytes) ≡ utf8_valid_len bytes
front_length bytes = length-take-le (utf8_valid_len bytes) bytes (utf8_valid_len_le bytes)

within_whole : (count : ℕ) (bytes : List ℕ) → utf8_valid_len bytes ≡ length bytes → readable_within count bytes ≡ bytes
within_whole zero bytes whole = refl
within_whole (suc count) bytes whole = rw (eq-eqb (utf8_valid_len bytes) (length bytes) whole)

-- what follows the first byte that is part of no character
abbrev after : List ℕ → List ℕ
after bytes = drop (utf8_valid_len bytes + 1) bytes

within_fault : (count : ℕ) (bytes : List ℕ) → utf8_valid_len bytes < length bytes → readable_within (suc count) bytes ≡ text_front bytes ++ 63 ∷ readable_within count (after bytes)
within_fault count bytes fault = rw (ne_eqb (utf8_valid_len bytes) (length bytes) (λ e. omega (arith, e, fault)))

after_shorter : (bytes : List ℕ) → utf8_valid_len bytes < length bytes → length (after bytes) < length bytes
after_shorter bytes fault = omega (arith, fault, length-drop (utf8_valid_len bytes + 1) bytes)

-- any count from the length up gives the same
within_any : (k j : ℕ) (bytes : List ℕ) → length bytes ≤ k → length bytes ≤ j → readable_within k bytes ≡ readable_within j bytes
within_any zero j bytes p q = let within = utf8_valid_len_le bytes in sym (within_whole j bytes (omega arith))
within_any (suc k) zero bytes p q = let within = utf8_valid_len_le bytes in within_whole (suc k) bytes (omega arith)
within_any (suc k) (suc j) bytes p q = by (cases_lt (utf8_valid_len bytes) (length bytes)) (λ fault. let less = after_shorter bytes fault in within_any k j (after bytes) (omega arith) (omega arith))
  where
    by : (utf8_valid_len bytes < length bytes) ⊎ (length bytes ≤ utf8_valid_len bytes)
        → (utf8_valid_len bytes < length bytes → readable_within k (after bytes) ≡ readable_within j (after bytes)) → readable_within (suc k) bytes ≡ readable_within (suc j) bytes
    by (inl fault) rest = within_fault k bytes fault ∙ ap (λ rest. text_front bytes ++ 63 ∷ rest) (rest fault) ∙ sym (within_fault j bytes fault)
    by (inr full) rest =
        let within = utf8_valid_len_le bytes in
        let whole : utf8_valid_len bytes ≡ length bytes = omega arith in
        within_whole (suc k) bytes whole ∙ sym (within_whole (suc j) bytes whole)

step : (bytes : List ℕ) → utf8_valid_len bytes < length bytes → readable bytes ≡ text_front bytes ++ 63 ∷ readable (after bytes)
step bytes fault =
    let less = after_shorter bytes fault in
    within_any (length bytes) (suc (length bytes)) bytes (omega arith) (omega arith)
    ∙ within_fault (length bytes) bytes fault
    ∙ ap (λ rest. text_front bytes ++ 63 ∷ rest) (within_any (length bytes) (length (after bytes)) (after bytes) (omega arith) (omega arith))

-- a byte after the front is shown as `?`
pub front_then_more : (bytes front others rest : List ℕ) (x : ℕ) → front ≡ text_front bytes → others ≡ drop (length front) bytes → others ≡ x ∷ rest → readable bytes ≡ front ++ 63 ∷ readable rest
front_then_more bytes front others rest x is back more =
    let n = utf8_valid_len bytes in
    let size : length front ≡ n = ap length is ∙ front_length bytes in
    let tail : drop n bytes ≡ x ∷ rest = ap (λ k. drop k bytes) (sym size) ∙ sym back ∙ more in
    let long : length (drop n bytes) ≡ suc (length rest) = ap length tail in
    let fault : n < length bytes = omega (arith, long, length-drop n bytes) in
    let left : after bytes ≡ rest = next n bytes ∙ ap (drop 1) tail in
    step bytes fault ∙ (λ i. sym is i ++ 63 ∷ readable (left i))
  where
    next : (n : ℕ) (xs : List ℕ) → drop (n + 1) xs ≡ drop 1 (drop n xs)
    next zero [] = refl
    next zero (x ∷ xs) = refl
    next (suc n) [] = let e : suc n + 1 ≡ suc (n + 1) = omega arith in ap (λ k. drop {A = ℕ} k []) e
    next (suc n) (x ∷ xs) = let e : suc n + 1 ≡ suc (n + 1) = omega arith in ap (λ k. drop k (x ∷ xs)) e ∙ next n xs

-- the front is all, where no byte follows it
pub front_then_none : (bytes front others : List ℕ) → front ≡ text_front bytes → others ≡ drop (length front) bytes → length others ≡ 0 → readable bytes ≡ front
front_then_none bytes front others is back none =
    let size : length front ≡ utf8_valid_len bytes = ap length is ∙ front_length bytes in
    let left : length others ≡ length (drop (utf8_valid_len bytes) bytes) = ap length back ∙ ap (λ k. length (drop k bytes)) size in
    let within = utf8_valid_len_le bytes in
    let whole : utf8_valid_len bytes ≡ length bytes = omega (arith, left, none, within, length-drop (utf8_valid_len bytes) bytes) in
    within_whole (length bytes) bytes whole ∙ sym (take-length bytes) ∙ ap (λ n. take n bytes) (sym whole) ∙ sym is
