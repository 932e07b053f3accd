-- The words of parts, with a space in front of each.
use Rattle.std.proofs.Common.{◌≤◌, ◌≡◌, ℕ, ◌+◌, ◌<◌, List, [], ◌∷◌, ◌++◌, map, length, take, get_or, refl, sym, ◌∙◌, ap, subst, append_assoc, append-nil}
use Rattle.std.specs.List.{flat_map, join_with_byte, AllByRecursion}
use Rattle.std.proofs.lemmas.Grind.{flat_map-append}
use Rattle.std.proofs.lemmas.List.{take_more, take_all}
use Rattle.script_words.specs.Words.{Word, word_text}
use Rattle.script_parts.specs.Parts.{Part, part_word}
use Rattle.script_parts.specs.Inside.Printed.{AreParts, spaced}

-- a line's words: the first, and the others with a space in front of each
pub spaced_behind : (word : Word) (parts : List Part) → join_with_byte 32 (word_text word ∷ map word_text (map part_word parts)) ≡ word_text word ++ spaced parts
spaced_behind word [] = sym (append-nil (word_text word))
spaced_behind word (part ∷ parts) = ap (λ (rest : List ℕ). word_text word ++ 32 ∷ rest) (spaced_behind (part_word part) parts)

pub spaced-append : (a b : List Part) → spaced (a ++ b) ≡ spaced a ++ spaced b
spaced-append a b = flat_map-append (λ (part : Part). 32 ∷ word_text (part_word part)) a b

pub parts_append : (a b : List Part) → AreParts a → AreParts b → AreParts (a ++ b)
parts_append [] b h g = g
parts_append (part ∷ a) b h g = (h.0, parts_append a b h.1 g)

-- the words of values, one after another
pub spaced_each : {X : Type 0} (f : X → List Part) (xs : List X) → spaced (flat_map f xs) ≡ flat_map (λ (x : X). spaced (f x)) xs
spaced_each f [] = refl
spaced_each f (x ∷ xs) = spaced-append (f x) (flat_map f xs) ∙ ap (λ (rest : List ℕ). spaced (f x) ++ rest) (spaced_each f xs)

pub parts_each : {X : Type 0} (f : X → List Part) (xs : List X) → AllByRecursion (λ (x : X). AreParts (f x)) xs → AreParts (flat_map f xs)
parts_each f [] h = tt
parts_each f (x ∷ xs) h = parts_append (f x) (flat_map f xs) h.0 (parts_each f xs h.1)

-- atoms of which each can be written
pub parts_if : {X : Type 0} (f : X → List Part) (P : X → Type 0) (xs : List X) → AllByRecursion (λ (x : X). P x → AreParts (f x)) xs → AllByRecursion P xs → AreParts (flat_map f xs)
parts_if f P [] h g = tt
parts_if f P (x ∷ xs) h g = parts_append (f x) (flat_map f xs) (h.0 g.0) (parts_if f P xs h.1 g.1)

-- ---- texts that are appended bit by bit

-- what a loop has taken at its end
pub whole_taken : {X : Type 0} (n : ℕ) (xs all : List X) → length xs ≤ n → xs ≡ all → take n xs ≡ all
whole_taken n xs all h e = take_all n xs h ∙ e

-- what a loop has appended after one more value
pub text_more : {X : Type 0} (f : X → List ℕ) (old done new : List ℕ) (xs : List X) (n : ℕ) (x : X) → n < length xs → x ≡ get_or xs n x
    → done ≡ old ++ flat_map f (take n xs) → new ≡ done ++ f x → new ≡ old ++ flat_map f (take (n + 1) xs)
text_more f old done new xs n x l e h g =
    let all : take (n + 1) xs ≡ take n xs ++ x ∷ [] = take_more xs n x l ∙ ap (λ y. take n xs ++ y ∷ []) (sym e) in
    g ∙ ap (λ (text : List ℕ). text ++ f x) h ∙ append_assoc old (flat_map f (take n xs)) (f x)
    ∙ ap (λ (text : List ℕ). old ++ text)
    (ap (λ (text : List ℕ). flat_map f (take n xs) ++ text) (sym (append-nil (f x))) ∙ sym (flat_map-append f (take n xs) (x ∷ [])) ∙ ap (flat_map f) (sym all))

all_with : {X : Type 0} (P : X → Type 0) (xs : List X) (x : X) → AllByRecursion P xs → P x → AllByRecursion P (xs ++ x ∷ [])
all_with P [] x h g = (g, tt)
all_with P (y ∷ xs) x h g = (h.0, all_with P xs x h.1 g)

pub all_more : {X : Type 0} (P : X → Type 0) (xs : List X) (n : ℕ) (x : X) → n < length xs → x ≡ get_or xs n x → AllByRecursion P (take n xs) → P x → AllByRecursion P (take (n + 1) xs)
all_more P xs n x l e h g = subst (AllByRecursion P) (sym (take_more xs n x l ∙ ap (λ y. take n xs ++ y ∷ []) (sym e))) (all_with P (take n xs) x h g)

pub two_spaced : (old mid new : List ℕ) (a b : Word) → mid ≡ old ++ 32 ∷ word_text a → new ≡ mid ++ 32 ∷ word_text b → new ≡ old ++ ((32 ∷ word_text a) ++ ((32 ∷ word_text b) ++ []))
two_spaced old mid new a b h g =
    g ∙ ap (λ (text : List ℕ). text ++ 32 ∷ word_text b) h ∙ append_assoc old (32 ∷ word_text a) (32 ∷ word_text b)
    ∙ ap (λ (text : List ℕ). old ++ ((32 ∷ word_text a) ++ text)) (sym (append-nil (32 ∷ word_text b)))

-- a line's words behind its first
pub one_word : (old mid new : List ℕ) (word : Word) (parts : List Part) → mid ≡ old ++ word_text word → new ≡ mid ++ spaced parts
    → new ≡ old ++ join_with_byte 32 (word_text word ∷ map word_text (map part_word parts))
one_word old mid new word parts h g =
    g ∙ ap (λ (text : List ℕ). text ++ spaced parts) h ∙ append_assoc old (word_text word) (spaced parts) ∙ ap (λ (text : List ℕ). old ++ text) (sym (spaced_behind word parts))

pub three_words : (old mid new a b : List ℕ) (word : Word) (parts : List Part) → mid ≡ old ++ (a ++ 32 ∷ (b ++ 32 ∷ word_text word)) → new ≡ mid ++ spaced parts
    → new ≡ old ++ (a ++ 32 ∷ (b ++ 32 ∷ join_with_byte 32 (word_text word ∷ map word_text (map part_word parts))))
three_words old mid new a b word parts h g =
    g ∙ ap (λ (text : List ℕ). text ++ spaced parts) h ∙ append_assoc old (a ++ 32 ∷ (b ++ 32 ∷ word_text word)) (spaced parts)
    ∙ ap (λ (text : List ℕ). old ++ text) (append_assoc a (32 ∷ (b ++ 32 ∷ word_text word)) (spaced parts)
    ∙ ap (λ (text : List ℕ). a ++ 32 ∷ text) (append_assoc b (32 ∷ word_text word) (spaced parts)
    ∙ ap (λ (text : List ℕ). b ++ 32 ∷ text) (sym (spaced_behind word parts))))

pub four_words : (old two three four new a b : List ℕ) (number word : Word) (parts : List Part) → two ≡ old ++ (a ++ 32 ∷ b) → three ≡ two ++ 32 ∷ word_text number → four ≡ three ++ 32 ∷ word_text word
    → new ≡ four ++ spaced parts → new ≡ old ++ (a ++ 32 ∷ (b ++ 32 ∷ (word_text number ++ 32 ∷ join_with_byte 32 (word_text word ∷ map word_text (map part_word parts)))))
four_words old two three four new a b number word parts h g k m =
    m ∙ ap (λ (text : List ℕ). text ++ spaced parts)
    (k ∙ ap (λ (text : List ℕ). text ++ 32 ∷ word_text word) (g ∙ ap (λ (text : List ℕ). text ++ 32 ∷ word_text number) h))
    ∙ append_assoc (((old ++ (a ++ 32 ∷ b)) ++ 32 ∷ word_text number)) (32 ∷ word_text word) (spaced parts)
    ∙ append_assoc (old ++ (a ++ 32 ∷ b)) (32 ∷ word_text number) (32 ∷ (word_text word ++ spaced parts))
    ∙ append_assoc old (a ++ 32 ∷ b) (32 ∷ (word_text number ++ 32 ∷ (word_text word ++ spaced parts)))
    ∙ ap (λ (text : List ℕ). old ++ text) (append_assoc a (32 ∷ b) (32 ∷ (word_text number ++ 32 ∷ (word_text word ++ spaced parts))))
    ∙ ap (λ (text : List ℕ). old ++ (a ++ 32 ∷ (b ++ 32 ∷ (word_text number ++ 32 ∷ text)))) (sym (spaced_behind word parts))
