-- What a word's bytes are printed as, from one byte that is no part of UTF-8 to the next.
use Rattle.std.proofs.Common.{◌≡◌, ℕ, suc, ◌+◌, ◌<◌, Bool, true, false, List, [], ◌∷◌, ◌++◌, length, take, drop, refl, sym, ◌∙◌, ap, append-nil, arith}
use Rattle.std.specs.Prelude.{if◌then◌else◌}
use Rattle.std.specs.List.{flat_map, enumerate_from}
use Rattle.std.specs.Str.Lossy.{utf8_valid_len}
use Rattle.std.proofs.lemmas.List.{take-append-drop, length-take-le, drop-drop}
use Rattle.std.proofs.lemmas.Str.{utf8_valid_len_le}
use Rattle.std.proofs.lemmas.Grind.{flat_map-append}
use Rattle.script_words.specs.Words.{Word, is_in_text, quoted_byte, quoted_text, byte_text, hex_text}
use Rattle.script_words.proofs.Pieces.{front_in, after_out, rest_in}

on : (a k : ℕ) → a + 1 + k ≡ a + suc k
on a k = omega arith

none_on : (a : ℕ) → a ≡ a + 0
none_on a = omega arith

each_same : (f : ℕ × ℕ → List ℕ) (g : ℕ → List ℕ) (a : ℕ) (xs : List ℕ) → ((k b : ℕ) → k < length xs → f (a + k, b) ≡ g b) → flat_map f (enumerate_from a xs) ≡ flat_map g xs
each_same f g a [] h = refl
each_same f g a (x ∷ xs) h =
    let first : f (a, x) ≡ g x = ap (λ n. f (n, x)) (none_on a) ∙ h 0 x (omega arith) in
    let rest = each_same f g (a + 1) xs (λ k b less. ap (λ n. f (n, b)) (on a k) ∙ h (suc k) b (omega (arith, less))) in
    (λ i. first i ++ rest i)

each_moved : (f g : ℕ × ℕ → List ℕ) (a b : ℕ) (xs : List ℕ) → ((k x : ℕ) → f (a + k, x) ≡ g (b + k, x)) → flat_map f (enumerate_from a xs) ≡ flat_map g (enumerate_from b xs)
each_moved f g a b [] h = refl
each_moved f g a b (x ∷ xs) h =
    let first : f (a, x) ≡ g (b, x) = ap (λ n. f (n, x)) (none_on a) ∙ h 0 x ∙ ap (λ n. g (n, x)) (sym (none_on b)) in
    let rest = each_moved f g (a + 1) (b + 1) xs (λ k y. ap (λ n. f (n, y)) (on a k) ∙ h (suc k) y ∙ sym (ap (λ n. g (n, y)) (on b k))) in
    (λ i. first i ++ rest i)

enumerate-append : (a : ℕ) (xs ys : List ℕ) → enumerate_from a (xs ++ ys) ≡ enumerate_from a xs ++ enumerate_from (a + length xs) ys
enumerate-append a [] ys = ap (λ n. enumerate_from n ys) (none_on a)
enumerate-append a (x ∷ xs) ys =
    let at : a + 1 + length xs ≡ a + length (x ∷ xs) = omega arith in
    ap (λ rest. (a, x) ∷ rest) (enumerate-append (a + 1) xs ys ∙ ap (λ n. enumerate_from (a + 1) xs ++ enumerate_from n ys) at)

shown_in : (word : Word) (place b : ℕ) → is_in_text word place ≡ true → quoted_byte word (place, b) ≡ byte_text b
shown_in word place b h = rw h

shown_out : (word : Word) (place b : ℕ) → is_in_text word place ≡ false → quoted_byte word (place, b) ≡ hex_text b
shown_out word place b h = rw h

shown_same : (word other : Word) (m n b : ℕ) → is_in_text word m ≡ is_in_text other n → quoted_byte word (m, b) ≡ quoted_byte other (n, b)
shown_same word other m n b h = ap (λ (t : Bool). if t then byte_text b else hex_text b) h

-- the longest front
front_text : (word : Word) → flat_map (quoted_byte word) (enumerate_from 0 (take (utf8_valid_len word) word)) ≡ flat_map byte_text (take (utf8_valid_len word) word)
front_text word =
    let size = length-take-le (utf8_valid_len word) word (utf8_valid_len_le word) in
    each_same (quoted_byte word) byte_text 0 (take (utf8_valid_len word) word) (λ k b less.
    let at : 0 + k ≡ k = omega arith in
    ap (λ n. quoted_byte word (n, b)) at ∙ shown_in word k b (front_in word k (omega (arith, less, size))))

-- where that is all of the word
pub quoted_last : (word : Word) → drop (utf8_valid_len word) word ≡ [] → quoted_text word ≡ flat_map byte_text (take (utf8_valid_len word) word)
quoted_last word e =
    let all : word ≡ take (utf8_valid_len word) word = sym (take-append-drop (utf8_valid_len word) word) ∙ ap (λ rest. take (utf8_valid_len word) word ++ rest) e ∙ append-nil (take (utf8_valid_len word) word) in
    ap (λ w. flat_map (quoted_byte word) (enumerate_from 0 w)) all ∙ front_text word

-- and where a byte comes after it
pub quoted_more : (word : Word) (b : ℕ) (rest : List ℕ) → drop (utf8_valid_len word) word ≡ b ∷ rest
    → quoted_text word ≡ flat_map byte_text (take (utf8_valid_len word) word) ++ (hex_text b ++ quoted_text rest)
quoted_more word b rest e =
    let n = utf8_valid_len word in
    let front = take n word in
    let long = length-take-le n word (utf8_valid_len_le word) in
    let size : 0 + length front ≡ n = omega (arith, long) in
    let all : word ≡ front ++ b ∷ rest = sym (take-append-drop n word) ∙ ap (λ left. front ++ left) e in
    let after : rest ≡ drop (n + 1) word = sym (ap (drop 1) e) ∙ drop-drop 1 n word in
    let places : enumerate_from 0 word ≡ enumerate_from 0 front ++ (n, b) ∷ enumerate_from (n + 1) rest =
    ap (enumerate_from 0) all ∙ enumerate-append 0 front (b ∷ rest) ∙ ap (λ m. enumerate_from 0 front ++ enumerate_from m (b ∷ rest)) size in
    ap (flat_map (quoted_byte word)) places
    ∙ flat_map-append (quoted_byte word) (enumerate_from 0 front) ((n, b) ∷ enumerate_from (n + 1) rest)
    ∙ (λ i. front_text word i ++ (shown_out word n b (after_out word) i
    ++ each_moved (quoted_byte word) (quoted_byte rest) (n + 1) 0 rest (λ k x.
    let at : k ≡ 0 + k = omega arith in
    shown_same word rest (n + 1 + k) (0 + k) x (rest_in word k ∙ (λ j. is_in_text (sym after j) (at j)))) i))

-- ---- a loop's steps

no_bytes : (word : Word) → length word ≡ 0 → word ≡ []
no_bytes [] e = refl
no_bytes (b ∷ bytes) e = absurd (omega (arith, e))

pub put_last : (rest valid after : List ℕ) (n : ℕ) → n ≡ utf8_valid_len rest → valid ≡ take n rest → after ≡ drop n rest → length after ≡ 0 → quoted_text rest ≡ flat_map byte_text valid
put_last rest valid after n e f g h =
    quoted_last rest (ap (λ k. drop k rest) (sym e) ∙ sym g ∙ no_bytes after h) ∙ ap (λ k. flat_map byte_text (take k rest)) (sym e) ∙ ap (flat_map byte_text) (sym f)

pub put_more : (rest valid after more : List ℕ) (n b : ℕ) → n ≡ utf8_valid_len rest → valid ≡ take n rest → after ≡ drop n rest → after ≡ b ∷ more → quoted_text rest ≡ flat_map byte_text valid ++ (hex_text b ++ quoted_text more)
put_more rest valid after more n b e f g h =
    quoted_more rest b more (ap (λ k. drop k rest) (sym e) ∙ sym g ∙ h)
    ∙ ap (λ front. flat_map byte_text front ++ (hex_text b ++ quoted_text more)) (ap (λ k. take k rest) (sym e) ∙ sym f)
