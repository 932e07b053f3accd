-- The first line of bytes, and the end of a line.
use Rattle.std.proofs.Common.{◌≡◌, ℕ, zero, suc, ◌+◌, ◌<◌, Bool, true, false, cond, List, [], ◌∷◌, ◌++◌, length, take, drop, refl, sym, ap, ◌∙◌, arith}
use Rattle.std.specs.Prelude.{◌==◌, slice_index}
use Rattle.std.specs.List.{onto_first}
use Rattle.std.proofs.lemmas.Bool.{false_from_ne_true}
use Rattle.memchr.specs.Find.{is_byte, NoneBefore, Nowhere, Passes}
use Rattle.include_lines.specs.Lines.{lines_of, without_line_feed}

-- where a line feed is at no place before this one, and there, it ends the first line
cut : (bytes : List ℕ) (k : ℕ) → ((i : ℕ) → i < k → (slice_index bytes i == 10) ≡ false) → (slice_index bytes k == 10) ≡ true → k < length bytes → lines_of bytes ≡ take (suc k) bytes ∷ lines_of (drop (suc k) bytes)
cut [] k before at within = absurd (omega (arith, within))
cut (b ∷ bytes) zero before at within = ap (λ t. cond t ((b ∷ []) ∷ lines_of bytes) (onto_first b (lines_of bytes))) at
cut (b ∷ bytes) (suc k) before at within =
    ap (λ t. cond t ((b ∷ []) ∷ lines_of bytes) (onto_first b (lines_of bytes))) (before 0 (omega arith))
    ∙ ap (onto_first b) (cut bytes k (λ i h. before (suc i) (omega (arith, h))) at (omega (arith, within)))

-- where there is none, all is the first line
whole : (b : ℕ) (bytes : List ℕ) → ((i : ℕ) → i < length (b ∷ bytes) → (slice_index (b ∷ bytes) i == 10) ≡ false) → lines_of (b ∷ bytes) ≡ (b ∷ bytes) ∷ []
whole b [] none = ap (λ t. cond t ((b ∷ []) ∷ lines_of []) (onto_first b (lines_of []))) (none 0 (omega arith))
whole b (next ∷ bytes) none =
    ap (λ t. cond t ((b ∷ []) ∷ lines_of (next ∷ bytes)) (onto_first b (lines_of (next ∷ bytes)))) (none 0 (omega arith))
    ∙ ap (onto_first b) (whole next bytes (λ i h. none (suc i) (omega (arith, h))))

pub cut_at : (bytes line rest : List ℕ) (k : ℕ) → NoneBefore (Passes (is_byte 10) bytes) 0 (length bytes) k × Passes (is_byte 10) bytes k
    → line ≡ take (k + 1) bytes → rest ≡ drop (k + 1) bytes → lines_of bytes ≡ line ∷ lines_of rest
cut_at bytes line rest k found front back =
    let next : suc k ≡ k + 1 = omega arith in
    cut bytes k (λ i h. false_from_ne_true _ (found.0.before i (omega arith) h)) found.1 found.0.high
    ∙ (λ i. take (next i) bytes ∷ lines_of (drop (next i) bytes)) ∙ (λ i. sym front i ∷ lines_of (sym back i))

drop_all : (bytes : List ℕ) → drop (length bytes) bytes ≡ []
drop_all [] = refl
drop_all (b ∷ bytes) = drop_all bytes

take_all : (bytes : List ℕ) → take (length bytes) bytes ≡ bytes
take_all [] = refl
take_all (b ∷ bytes) = ap (λ xs. b ∷ xs) (take_all bytes)

pub uncut : (bytes line rest : List ℕ) → 0 < length bytes → Nowhere (Passes (is_byte 10) bytes) 0 (length bytes)
    → line ≡ take (length bytes) bytes → rest ≡ drop (length bytes) bytes → lines_of bytes ≡ line ∷ lines_of rest
uncut [] line rest some none front back = absurd (omega (arith, some))
uncut (b ∷ bytes) line rest some none front back =
    whole b bytes (λ i h. false_from_ne_true _ (none i (omega arith) h))
    ∙ (λ i. sym (front ∙ take_all (b ∷ bytes)) i ∷ lines_of (sym (back ∙ drop_all (b ∷ bytes)) i))

-- a line by its last byte
pub last_byte : (front : List ℕ) (b : ℕ) → without_line_feed (front ++ b ∷ []) ≡ cond (b == 10) front (front ++ b ∷ [])
last_byte [] b = refl
last_byte (a ∷ []) b = by (b == 10)
  where
    by : (t : Bool) → a ∷ cond t [] (b ∷ []) ≡ cond t (a ∷ []) (a ∷ b ∷ [])
    by true = refl
    by false = refl
last_byte (a ∷ next ∷ front) b = ap (λ xs. a ∷ xs) (last_byte (next ∷ front) b) ∙ by (b == 10)
  where
    by : (t : Bool) → a ∷ cond t (next ∷ front) ((next ∷ front) ++ b ∷ []) ≡ cond t (a ∷ next ∷ front) ((a ∷ next ∷ front) ++ b ∷ [])
    by true = refl
    by false = refl

pub ends : (line front : List ℕ) (b : ℕ) (t : Bool) → line ≡ front ++ b ∷ [] → (b == 10) ≡ t → without_line_feed line ≡ cond t front line
ends line front b t is e = ap without_line_feed is ∙ last_byte front b ∙ (λ i. cond (e i) front (sym is i))
