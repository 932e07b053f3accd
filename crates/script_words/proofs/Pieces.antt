-- Which bytes of a word are part of UTF-8.
use Rattle.std.proofs.Common.{◌≡◌, ◌⊎◌, inl, inr, ℕ, zero, suc, ◌+◌, ◌<◌, ◌≤◌, Bool, true, false, ◌++◌, length, take, drop, get_or, IsUtf8, refl, sym, ◌∙◌, ap, subst, arith, length-drop}
use Rattle.std.specs.Prelude.{◌||◌, nat_lt}
use Rattle.std.specs.List.{list_any, range_with_len}
use Rattle.std.specs.Str.{is_utf8, IsCharBoundary}
use Rattle.std.specs.Str.Lossy.{valid_len_up_to, utf8_valid_len}
use Rattle.std.proofs.lemmas.Bool.{cases_lt}
use Rattle.std.proofs.lemmas.Bool.Decides.{nat_tests}
use Rattle.std.proofs.lemmas.List.{take-append-drop, take-take, get_or-take, drop-take, length-take-le, drop-drop}
use Rattle.std.proofs.lemmas.Str.{IsUtf8-append, IsUtf8-nil, IsUtf8-from_is_utf8, is_utf8-from_IsUtf8, IsUtf8-take, IsCharBoundary-at_seam, utf8_valid_len_le}
use Rattle.script_words.specs.Words.{Word, is_in_text}

-- ---- the longest front

valid_front : (word : Word) (n : ℕ) → IsUtf8 (take (valid_len_up_to word n) word)
valid_front word zero = IsUtf8-nil
valid_front word (suc n) = by (is_utf8 (take (suc n) word)) refl (valid_front word n)
  where
    by : (t : Bool) → is_utf8 (take (suc n) word) ≡ t → IsUtf8 (take (valid_len_up_to word n) word) → IsUtf8 (take (valid_len_up_to word (suc n)) word)
    by true e h = rw e (IsUtf8-from_is_utf8 (take (suc n) word) e)
    by false e h = rw e h

pub valid_utf8 : (word : Word) → IsUtf8 (take (utf8_valid_len word) word)
unfolding utf8_valid_len
valid_utf8 word = valid_front word (length word)

longest_to : (word : Word) (m k : ℕ) → k ≤ m → IsUtf8 (take k word) → k ≤ valid_len_up_to word m
longest_to word zero k h u = h
longest_to word (suc m) k h u = by (is_utf8 (take (suc m) word)) refl (cases_lt k (suc m)) (λ le. longest_to word m k le u)
  where
    by : (t : Bool) → is_utf8 (take (suc m) word) ≡ t → (k < suc m) ⊎ (suc m ≤ k) → (k ≤ m → k ≤ valid_len_up_to word m) → k ≤ valid_len_up_to word (suc m)
    by true e c more = rw e h
    by false e (inl less) more = rw e (more (omega (arith, less)))
    by false e (inr le) more =
        let same : k ≡ suc m = omega (arith, h, le) in
        let is : is_utf8 (take (suc m) word) ≡ true = is_utf8-from_IsUtf8 (take (suc m) word) (subst (λ n. IsUtf8 (take n word)) same u) in
        let wrong : true ≡ false = sym is ∙ e in absurd (let no : ⊥ = cc in no)

longest : (word : Word) (k : ℕ) → k ≤ length word → IsUtf8 (take k word) → k ≤ utf8_valid_len word
unfolding utf8_valid_len
longest word k h u = longest_to word (length word) k h u

-- ---- no text that begins within it goes on past it

-- two texts where one begins within the other are one
joined : (word : Word) (n i m : ℕ) → i ≤ n → n < i + m → i + m ≤ length word → IsUtf8 (take n word) → IsUtf8 (take m (drop i word)) → IsUtf8 (take (i + m) word)
joined word n i m within past whole front piece =
    let all : take (i + m) word ≡ take i word ++ take m (drop i word) = seam in
    let size : length (take i word) ≡ i = length-take-le i word (omega (arith, within, past, whole)) in
    let begins : IsCharBoundary (take (i + m) word) i = subst (IsCharBoundary (take (i + m) word)) size (IsCharBoundary-at_seam (take (i + m) word) (take i word) (take m (drop i word)) all piece) in
    let length_n : length (take n word) ≡ n = length-take-le n word (omega (arith, past, whole)) in
    let length_m : length (take (i + m) word) ≡ i + m = length-take-le (i + m) word whole in
    let there : IsCharBoundary (take n word) i = (
      omega (arith, within, length_n),
      λ less high.
          let at_n : get_or (take n word) i 0 ≡ get_or word i 0 = get_or-take n word i 0 (omega (arith, less, length_n)) in
          let at_m : get_or (take (i + m) word) i 0 ≡ get_or word i 0 = get_or-take (i + m) word i 0 (omega (arith, less, length_n, past)) in
          let lead = begins.1 (omega (arith, less, length_n, past, length_m)) (omega (arith, high, at_n, at_m)) in omega (arith, lead, at_n, at_m),
    ) in
    let before : IsUtf8 (take i word) = subst IsUtf8 (take-take i n word within) (IsUtf8-take (take n word) i front there) in
    subst IsUtf8 (sym all) (IsUtf8-append (take i word) (take m (drop i word)) before piece)
  where
    seam : take (i + m) word ≡ take i word ++ take m (drop i word)
    seam =
        sym (take-append-drop i (take (i + m) word))
        ∙ (λ j. take-take i (i + m) word (omega arith) j ++ drop-take i m word j)

pub no_further : (word : Word) (i : ℕ) → i ≤ utf8_valid_len word → i + utf8_valid_len (drop i word) ≤ utf8_valid_len word
no_further word i h = by (cases_lt (utf8_valid_len word) (i + utf8_valid_len (drop i word)))
  where
    by : (utf8_valid_len word < i + utf8_valid_len (drop i word)) ⊎ (i + utf8_valid_len (drop i word) ≤ utf8_valid_len word) → i + utf8_valid_len (drop i word) ≤ utf8_valid_len word
    by (inr le) = le
    by (inl past) =
        let front = utf8_valid_len_le word in
        let back = utf8_valid_len_le (drop i word) in
        let whole : i + utf8_valid_len (drop i word) ≤ length word = omega (arith, front, back, h, length-drop i word) in
        longest word (i + utf8_valid_len (drop i word)) whole
        (joined word (utf8_valid_len word) i (utf8_valid_len (drop i word)) h past whole (valid_utf8 word) (valid_utf8 (drop i word)))

-- ---- the places

or_false : (t : Bool) → t ≡ false → (u : Bool) → u ≡ false → (t || u) ≡ false
or_false t e u f = (λ i. e i || f i)

none_in : (p : ℕ → Bool) (a n : ℕ) → ((i : ℕ) → a ≤ i → i < a + n → p i ≡ false) → list_any p (range_with_len a n) ≡ false
none_in p a zero h = refl
none_in p a (suc n) h = or_false (p a) (h a (omega arith) (omega arith)) (list_any p (range_with_len (a + 1) n)) (none_in p (a + 1) n (λ i low high. h i (omega (arith, low)) (omega (arith, high))))

any_split : (p : ℕ → Bool) (a b m n all : ℕ) → all ≡ m + n → b ≡ a + m → list_any p (range_with_len a m) ≡ false → list_any p (range_with_len a all) ≡ list_any p (range_with_len b n)
any_split p a b zero n all e f h =
    let size : all ≡ n = omega (arith, e) in
    let at : a ≡ b = omega (arith, f) in
    (λ i. list_any p (range_with_len (at i) (size i)))
any_split p a b (suc m) n zero e f h = absurd (omega (arith, e))
any_split p a b (suc m) n (suc all) e f h = by (p a) refl (λ rest. any_split p (a + 1) b m n all (omega (arith, e)) (omega (arith, f)) rest)
  where
    by : (t : Bool) → p a ≡ t → (list_any p (range_with_len (a + 1) m) ≡ false → list_any p (range_with_len (a + 1) all) ≡ list_any p (range_with_len b n))
        → list_any p (range_with_len a (suc all)) ≡ list_any p (range_with_len b n)
    by true s more = let wrong : true ≡ false = rw s at h in absurd (let no : ⊥ = cc in no)
    by false s more = let rest : list_any p (range_with_len (a + 1) m) ≡ false = rw s at h in rw s (more rest)

any_shifted : (p q : ℕ → Bool) (a b n : ℕ) → ((i : ℕ) → p (a + i) ≡ q (b + i)) → list_any p (range_with_len a n) ≡ list_any q (range_with_len b n)
any_shifted p q a b zero h = refl
any_shifted p q a b (suc n) h =
    let left : a ≡ a + 0 = omega arith in
    let right : b + 0 ≡ b = omega arith in
    let first : p a ≡ q b = ap p left ∙ h 0 ∙ ap q right in
    let rest = any_shifted p q (a + 1) (b + 1) n (λ i. ap p (on a i) ∙ h (suc i) ∙ sym (ap q (on b i))) in
    (λ i. first i || rest i)
  where
    on : (a i : ℕ) → a + 1 + i ≡ a + suc i
    on a i = omega arith

-- a byte of the longest front is part of it
pub front_in : (word : Word) (place : ℕ) → place < utf8_valid_len word → is_in_text word place ≡ true
front_in word place h =
    let first : nat_lt place (0 + utf8_valid_len word) ≡ true = grind (arith, nat_tests, h) in rw first

past_front : (word : Word) (place start : ℕ) → utf8_valid_len word ≤ place → start ≤ utf8_valid_len word → nat_lt place (start + utf8_valid_len (drop start word)) ≡ false
past_front word place start h s = let within = no_further word start s in grind (arith, nat_tests, h, within)

-- the byte after it is no part of UTF-8
pub after_out : (word : Word) → is_in_text word (utf8_valid_len word) ≡ false
after_out word =
    none_in (λ start. nat_lt (utf8_valid_len word) (start + utf8_valid_len (drop start word))) 0 (suc (utf8_valid_len word))
    (λ start low high. past_front word (utf8_valid_len word) start (omega arith) (omega (arith, high)))

abbrev reaches : Word → ℕ → ℕ → Bool
reaches word place start = nat_lt place (start + utf8_valid_len (drop start word))

shifted : (n k start m : ℕ) (t : Bool) → nat_lt k (start + m) ≡ t → nat_lt (n + 1 + k) (n + 1 + start + m) ≡ t
shifted n k start m true e = grind (arith, nat_tests, e)
shifted n k start m false e = grind (arith, nat_tests, e)

moved : (word : Word) (n k start : ℕ) → reaches word (n + 1 + k) (n + 1 + start) ≡ reaches (drop (n + 1) word) k (0 + start)
moved word n k start =
    let at : start ≡ 0 + start = omega arith in
    ap (λ left. nat_lt (n + 1 + k) (n + 1 + start + utf8_valid_len left)) (sym (drop-drop start (n + 1) word))
    ∙ shifted n k start (utf8_valid_len (drop start (drop (n + 1) word))) (nat_lt k (start + utf8_valid_len (drop start (drop (n + 1) word)))) refl
    ∙ ap (reaches (drop (n + 1) word) k) at

-- and what follows that one stands for itself
pub rest_in : (word : Word) (k : ℕ) → is_in_text word (utf8_valid_len word + 1 + k) ≡ is_in_text (drop (utf8_valid_len word + 1) word) k
rest_in word k =
    any_split (reaches word (utf8_valid_len word + 1 + k)) 0 (utf8_valid_len word + 1) (utf8_valid_len word + 1) (suc k) (suc (utf8_valid_len word + 1 + k)) (omega arith) (omega arith)
    (none_in (reaches word (utf8_valid_len word + 1 + k)) 0 (utf8_valid_len word + 1)
    (λ start low high. past_front word (utf8_valid_len word + 1 + k) start (omega arith) (omega (arith, high))))
    ∙ any_shifted (reaches word (utf8_valid_len word + 1 + k)) (reaches (drop (utf8_valid_len word + 1) word) k) (utf8_valid_len word + 1) 0 (suc k) (moved word (utf8_valid_len word) k)
