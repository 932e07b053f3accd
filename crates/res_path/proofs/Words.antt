-- Bytes that are compared by words of eight.
use Rattle.std.proofs.Common.{◌≡◌, ◌≢◌, ◌⊎◌, inl, inr, ℕ, zero, suc, ◌+◌, ◌-◌, ◌*◌, ◌/◌, ◌%◌, ◌^◌, ◌<◌, ◌≤◌, List, [], ◌∷◌, ◌++◌, length, take, drop, get_or, refl, sym, ap, subst, ◌∙◌, arith, Less, Equal, Greater, Fits, w8, slice_index, drop-cons}
use Rattle.std.proofs.lemmas.List.{length-take, length-drop, get_or-drop, get_or-take}
use Rattle.std.specs.Int.{bit_at, trailing_zeros, w64}
use Rattle.std.specs.Int.Bits.{bit_xor}
use Rattle.std.specs.declared.cmp.Ordering.{Ordering}
use Rattle.std.specs.Ordering.{nat_cmp, ordering_then, MatchOrdering}
use Rattle.std.specs.Cmp.{nat_cmp_is}
use Rattle.std.specs.FinMap.{nat_cmp-IsAntisymmetric}
use Rattle.std.proofs.lemmas.Bool.{cases_lt}
use Rattle.std.proofs.lemmas.Bool.Decides.{nat_tests}
use Rattle.std.proofs.lemmas.Cmp.{nat_cmp_total, tied_itself}
use Rattle.std.proofs.lemmas.Nat.Bits.{bit_at_xor, bit_at-lt, bit_at-zero, bit_at-trailing_zeros, same_from_bits_below, bit_at_cat_low, bit_at_cat_high}
use Rattle.std.proofs.Math.Seq.{take-add}
use Rattle.res_path.specs.Inside.Order.{rank, text_cmp, word_of, DifferAt}

-- each is a byte
abbrev AreBytes : List ℕ → Type 0
AreBytes xs = (i : ℕ) → get_or xs i 0 < 256

rest_are : (x : ℕ) (xs : List ℕ) → AreBytes (x ∷ xs) → AreBytes xs
rest_are x xs h i = h (suc i)

-- the low bits of two words are those of the first bytes
low_bits : (k : ℕ) (xs ys : List ℕ) → AreBytes xs → AreBytes ys → length xs ≡ length ys
    → ((i : ℕ) → i < k * 8 → bit_at (word_of xs) i ≡ bit_at (word_of ys) i) → take k xs ≡ take k ys
low_bits zero xs ys h g e b = refl
low_bits (suc k) [] [] h g e b = refl
low_bits (suc k) [] (y ∷ ys) h g e b = absurd (omega arith)
low_bits (suc k) (x ∷ xs) [] h g e b = absurd (omega arith)
low_bits (suc k) (x ∷ xs) (y ∷ ys) h g e b =
    let here : x ≡ y = same_from_bits_below 8 x y (h 0) (g 0) (λ i l.
    sym (bit_at_cat_low (word_of xs) 8 x i l) ∙ b i (omega (arith, l)) ∙ bit_at_cat_low (word_of ys) 8 y i l) in
    let rest : take k xs ≡ take k ys = low_bits k xs ys (rest_are x xs h) (rest_are y ys g) (omega arith) (λ i l.
    let up : (i + 8) - 8 ≡ i = omega arith in
    ap (bit_at (word_of xs)) (sym up)
    ∙ sym (bit_at_cat_high (word_of xs) 8 x (i + 8) (h 0) (omega arith)) ∙ b (i + 8) (omega (arith, l))
    ∙ bit_at_cat_high (word_of ys) 8 y (i + 8) (g 0) (omega arith)
    ∙ ap (bit_at (word_of ys)) up) in
    λ i. here i ∷ rest i

-- where the xor has no bit, two numbers have the same
no_difference : (x y i : ℕ) → bit_at (bit_xor x y) i ≡ 0 → bit_at x i ≡ bit_at y i
no_difference x y i h =
    let e : (bit_at x i + bit_at y i) % 2 ≡ 0 = sym (bit_at_xor x y i) ∙ h in
    parity (bit_at x i) (bit_at y i) (bit_at-lt x i) (bit_at-lt y i) e
  where
    parity : (p q : ℕ) → p < 2 → q < 2 → (p + q) % 2 ≡ 0 → p ≡ q
    parity p q h g e = omega arith

-- two words without a difference are of the same bytes
pub same_words : (xs ys : List ℕ) → AreBytes xs → AreBytes ys → length xs ≡ 8 → length ys ≡ 8
    → bit_xor (word_of xs) (word_of ys) ≡ 0 → take 8 xs ≡ take 8 ys
same_words xs ys h g n m e = low_bits 8 xs ys h g (n ∙ sym m) (λ i l.
    no_difference (word_of xs) (word_of ys) i (ap (λ d. bit_at d i) e ∙ bit_at-zero i))

-- the bytes below the lowest difference of two words are the same
pub same_below : (xs ys : List ℕ) → AreBytes xs → AreBytes ys → length xs ≡ 8 → length ys ≡ 8
    → 0 < bit_xor (word_of xs) (word_of ys) → bit_xor (word_of xs) (word_of ys) < 2 ^ 64
    → take (trailing_zeros w64 (bit_xor (word_of xs) (word_of ys)) / 8) xs ≡ take (trailing_zeros w64 (bit_xor (word_of xs) (word_of ys)) / 8) ys
same_below xs ys h g n m p l =
    let d = bit_xor (word_of xs) (word_of ys) in
    let low = bit_at-trailing_zeros w64 d p l in
    low_bits (trailing_zeros w64 d / 8) xs ys h g (n ∙ sym m) (λ i k.
    no_difference (word_of xs) (word_of ys) i (low.2 i (omega (arith, k))))

pub take_take : (k n : ℕ) (xs : List ℕ) → k ≤ n → take k (take n xs) ≡ take k xs
take_take zero n xs h = refl
take_take (suc k) zero xs h = absurd (omega arith)
take_take (suc k) (suc n) [] h = refl
take_take (suc k) (suc n) (x ∷ xs) h = ap (λ rest. x ∷ rest) (take_take k n xs (omega arith))

-- a longer front is the same
pub more_same : (at k : ℕ) (a b : List ℕ) → take at a ≡ take at b → k ≤ 8 → take k (take 8 (drop at a)) ≡ take k (take 8 (drop at b)) → take (at + k) a ≡ take (at + k) b
more_same at k a b h l e =
    take-add at k a
    ∙ (λ i. h i ++ (sym (take_take k 8 (drop at a) l) ∙ e ∙ take_take k 8 (drop at b) l) i)
    ∙ sym (take-add at k b)

-- what follows the same front decides
pub text_cmp-drop : (n : ℕ) (a b : List ℕ) → take n a ≡ take n b → n ≤ length a → n ≤ length b → text_cmp (drop n a) (drop n b) ≡ text_cmp a b
text_cmp-drop zero a b e h g = refl
text_cmp-drop (suc n) [] b e h g = absurd (omega arith)
text_cmp-drop (suc n) (x ∷ a) [] e h g = absurd (omega arith)
text_cmp-drop (suc n) (x ∷ a) (y ∷ b) e h g =
    let one : x ≡ y = cc in
    let more : take n a ≡ take n b = cc in
    let tie : nat_cmp (rank x) (rank y) ≡ Equal = ap (λ z. nat_cmp (rank x) (rank z)) (sym one) ∙ tied_itself nat_cmp_total (rank x) in
    text_cmp-drop n a b more (omega arith) (omega arith) ∙ ap (λ o. ordering_then o (text_cmp a b)) (sym tie)

-- ---- words at a place of two texts

abbrev pub Bytes : List ℕ → Type 0
Bytes xs = (i : ℕ) → Fits w8 (get_or xs i 0)

take_bytes : (k : ℕ) (xs : List ℕ) → AreBytes xs → AreBytes (take k xs)
take_bytes zero xs h i = omega arith
take_bytes (suc k) [] h i = h i
take_bytes (suc k) (x ∷ xs) h zero = h zero
take_bytes (suc k) (x ∷ xs) h (suc i) = take_bytes k xs (rest_are x xs h) i

are_bytes : (at : ℕ) (a : List ℕ) → Bytes a → AreBytes (take 8 (drop at a))
are_bytes at a h = take_bytes 8 (drop at a) (λ i. subst (λ b. b < 256) (sym (get_or-drop at a i 0)) (h (at + i)).fits)

length_word : (at : ℕ) (a : List ℕ) → at + 8 ≤ length a → length (take 8 (drop at a)) ≡ 8
length_word at a h = simp (length-take, length-drop) (omega arith)

pub passed_word : (at : ℕ) (a b : List ℕ) (x y : ℕ) → Bytes a → Bytes b → at + 8 ≤ length a → at + 8 ≤ length b
    → x ≡ word_of (take 8 (drop at a)) → y ≡ word_of (take 8 (drop at b)) → take at a ≡ take at b
    → bit_xor x y ≡ 0 → take (at + 8) a ≡ take (at + 8) b
passed_word at a b x y h g n m e f s d =
    more_same at 8 a b s (omega arith)
    (same_words (take 8 (drop at a)) (take 8 (drop at b)) (are_bytes at a h) (are_bytes at b g) (length_word at a n) (length_word at b m)
    ((λ i. bit_xor (sym e i) (sym f i)) ∙ d))

pub passed_below : (at : ℕ) (a b : List ℕ) (x y : ℕ) → Bytes a → Bytes b → at + 8 ≤ length a → at + 8 ≤ length b
    → x ≡ word_of (take 8 (drop at a)) → y ≡ word_of (take 8 (drop at b)) → take at a ≡ take at b
    → 0 < bit_xor x y → bit_xor x y < 2 ^ 64
    → take (at + trailing_zeros w64 (bit_xor x y) / 8) a ≡ take (at + trailing_zeros w64 (bit_xor x y) / 8) b
passed_below at a b x y h g n m e f s p l =
    let low = bit_at-trailing_zeros w64 (bit_xor x y) p l in
    let same : bit_xor x y ≡ bit_xor (word_of (take 8 (drop at a))) (word_of (take 8 (drop at b))) = λ i. bit_xor (e i) (f i) in
    more_same at (trailing_zeros w64 (bit_xor x y) / 8) a b s (omega arith)
    (subst (λ d. take (trailing_zeros w64 d / 8) (take 8 (drop at a)) ≡ take (trailing_zeros w64 d / 8) (take 8 (drop at b))) (sym same)
    (same_below (take 8 (drop at a)) (take 8 (drop at b)) (are_bytes at a h) (are_bytes at b g) (length_word at a n) (length_word at b m)
    (subst (λ d. 0 < d) same p) (subst (λ d. d < 2 ^ 64) same l)))

-- ---- words that differ

-- a word's bit is one of a byte's
bit_of : (xs : List ℕ) (i : ℕ) → AreBytes xs → bit_at (word_of xs) i ≡ bit_at (get_or xs (i / 8) 0) (i % 8)
bit_of [] i h = bit_at-zero i ∙ sym (bit_at-zero (i % 8))
bit_of (x ∷ xs) i h = by (cases_lt i 8) (λ j. bit_of xs j (rest_are x xs h))
  where
    by : (i < 8) ⊎ (8 ≤ i) → ((j : ℕ) → bit_at (word_of xs) j ≡ bit_at (get_or xs (j / 8) 0) (j % 8)) → bit_at (word_of (x ∷ xs)) i ≡ bit_at (get_or (x ∷ xs) (i / 8) 0) (i % 8)
    by (inl l) next =
        let none : i / 8 ≡ 0 = omega (arith, l) in
        let same : i % 8 ≡ i = omega (arith, l) in
        bit_at_cat_low (word_of xs) 8 x i l ∙ (λ k. bit_at (get_or (x ∷ xs) (sym none k) 0) (sym same k))
    by (inr l) next =
        let one : i / 8 ≡ suc ((i - 8) / 8) = omega (arith, l) in
        let same : i % 8 ≡ (i - 8) % 8 = omega (arith, l) in
        bit_at_cat_high (word_of xs) 8 x i (h 0) l ∙ next (i - 8) ∙ (λ k. bit_at (get_or (x ∷ xs) (sym one k) 0) (sym same k))

pub differ_there : (xs ys : List ℕ) → AreBytes xs → AreBytes ys → 0 < bit_xor (word_of xs) (word_of ys) → bit_xor (word_of xs) (word_of ys) < 2 ^ 64
    → get_or xs (trailing_zeros w64 (bit_xor (word_of xs) (word_of ys)) / 8) 0 ≢ get_or ys (trailing_zeros w64 (bit_xor (word_of xs) (word_of ys)) / 8) 0
differ_there xs ys h g p l e =
    let d = bit_xor (word_of xs) (word_of ys) in
    let at = trailing_zeros w64 d in
    let low = bit_at-trailing_zeros w64 d p l in
    let same : bit_at (word_of xs) at ≡ bit_at (word_of ys) at = bit_of xs at h ∙ ap (λ b. bit_at b (at % 8)) e ∙ sym (bit_of ys at g) in
    let odd : (bit_at (word_of xs) at + bit_at (word_of ys) at) % 2 ≡ 1 = sym (bit_at_xor (word_of xs) (word_of ys) at) ∙ low.1 in
    never (bit_at (word_of xs) at) (bit_at (word_of ys) at) same odd
  where
    never : (p q : ℕ) → p ≡ q → (p + q) % 2 ≡ 1 → ⊥
    never p q h e = omega arith

pub differ_in_word : (at : ℕ) (a b : List ℕ) (x y : ℕ) → Bytes a → Bytes b → at + 8 ≤ length a → at + 8 ≤ length b
    → x ≡ word_of (take 8 (drop at a)) → y ≡ word_of (take 8 (drop at b)) → 0 < bit_xor x y → bit_xor x y < 2 ^ 64
    → DifferAt a b (at + trailing_zeros w64 (bit_xor x y) / 8)
differ_in_word at a b x y h g n m e f p l =
    let low = bit_at-trailing_zeros w64 (bit_xor x y) p l in
    let same : bit_xor x y ≡ bit_xor (word_of (take 8 (drop at a))) (word_of (take 8 (drop at b))) = λ i. bit_xor (e i) (f i) in
    let k = trailing_zeros w64 (bit_xor x y) / 8 in
    let short : k < 8 = omega arith in
    let other : get_or (take 8 (drop at a)) k 0 ≢ get_or (take 8 (drop at b)) k 0 =
    subst (λ d. get_or (take 8 (drop at a)) (trailing_zeros w64 d / 8) 0 ≢ get_or (take 8 (drop at b)) (trailing_zeros w64 d / 8) 0) (sym same)
    (differ_there (take 8 (drop at a)) (take 8 (drop at b)) (are_bytes at a h) (are_bytes at b g) (subst (λ d. 0 < d) same p) (subst (λ d. d < 2 ^ 64) same l)) in
    record {
      first = omega arith;
      second = omega arith;
      other = λ z. other (get_or-take 8 (drop at a) k 0 short ∙ get_or-drop at a k 0 ∙ z ∙ sym (get_or-drop at b k 0) ∙ sym (get_or-take 8 (drop at b) k 0 short));
    }

rank_same : (x y : ℕ) → rank x ≡ rank y → x ≡ y
rank_same x y e = grind (arith, nat_tests)

decided : (o rest : Ordering) → (o ≡ Equal → ⊥) → ordering_then o rest ≡ o
decided Less rest n = refl
decided Equal rest n = absurd (n refl)
decided Greater rest n = refl

-- where the fronts are the same and the next bytes are not, these decide
pub differ_cmp : (n : ℕ) (a b : List ℕ) → take n a ≡ take n b → DifferAt a b n → text_cmp a b ≡ nat_cmp (rank (slice_index a n)) (rank (slice_index b n))
differ_cmp n a b e d =
    sym (text_cmp-drop n a b e (omega (arith, d.first)) (omega (arith, d.second)))
    ∙ (λ i. text_cmp (drop-cons a n 0 d.first i) (drop-cons b n 0 d.second i))
    ∙ decided (nat_cmp (rank (slice_index a n)) (rank (slice_index b n))) (text_cmp (drop (suc n) a) (drop (suc n) b))
    (λ z. d.other (rank_same (slice_index a n) (slice_index b n) (nat_cmp-IsAntisymmetric (rank (slice_index a n)) (rank (slice_index b n)) z)))

-- a shorter front is the same
pub fewer_same : (k n : ℕ) (a b : List ℕ) → k ≤ n → take n a ≡ take n b → take k a ≡ take k b
fewer_same k n a b h e = sym (take_take k n a h) ∙ ap (take k) e ∙ take_take k n b h

-- where the fronts are the same and one text has ended, the lengths decide
pub ended_cmp : (n : ℕ) (a b : List ℕ) → take n a ≡ take n b → n ≤ length a → n ≤ length b → (length a ≤ n) ⊎ (length b ≤ n) → text_cmp a b ≡ nat_cmp (length a) (length b)
ended_cmp n a b e h g s =
    sym (text_cmp-drop n a b e h g)
    ∙ nat_cmp_is (length a) (length b) (text_cmp (drop n a) (drop n b)) (by (drop n a) (drop n b) (length-drop n a) (length-drop n b) s)
  where
    by : (p q : List ℕ) → length p ≡ length a - n → length q ≡ length b - n → (length a ≤ n) ⊎ (length b ≤ n)
        → MatchOrdering (text_cmp p q) (length a < length b) (length a ≡ length b) (length b < length a)
    by [] [] k l s = omega (arith, k, l, h, g)
    by [] (y ∷ q) k l s = omega (arith, k, l, h, g)
    by (x ∷ p) [] k l s = omega (arith, k, l, h, g)
    by (x ∷ p) (y ∷ q) k l (inl s) = absurd (omega (arith, k, s))
    by (x ∷ p) (y ∷ q) k l (inr s) = absurd (omega (arith, l, s))
