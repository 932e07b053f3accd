-- Lists that grow by one of their numbers, and states that one draw after another leaves.
use Rattle.std.proofs.Common.{◌≡◌, ◌∙◌, ℕ, zero, suc, ◌+◌, ◌*◌, List, [], ◌∷◌, ◌++◌, map, refl, sym, ap, arith}
use Rattle.std.proofs.lemmas.List.{append_assoc, append-nil}
use Rattle.std.proofs.lemmas.List.FromFn.{map-range_with_len_more}
use Rattle.std.specs.List.{flat_map, range_with_len}
use Rattle.script_gen.specs.Draws.{next, behind}

pub behind_none : (x : ℕ) → behind x 0 ≡ x
unfolding behind
behind_none x = refl

pub behind_more : (x n : ℕ) → behind x (n + 1) ≡ next (behind x n)
unfolding behind
behind_more x n = let e : n + 1 ≡ suc n = omega arith in ap (behind x) e

pub behind_add : (x a b : ℕ) → behind (behind x a) b ≡ behind x (a + b)
unfolding behind
behind_add x a zero = let e : a ≡ a + 0 = omega arith in ap (behind x) e
behind_add x a (suc b) = let e : suc (a + b) ≡ a + suc b = omega arith in ap next (behind_add x a b) ∙ ap (behind x) e

-- one more of the numbered ones
pub one_more : {A : Type 0} (f : ℕ → A) (n : ℕ) (old now : List A) → now ≡ old ++ map f (range_with_len 0 n)
    → now ++ f n ∷ [] ≡ old ++ map f (range_with_len 0 (n + 1))
one_more f n old now is =
    let e : 0 + n ≡ n = omega arith in
    ap (λ xs. xs ++ f n ∷ []) is ∙ append_assoc old (map f (range_with_len 0 n)) (f n ∷ []) ∙ ap (λ xs. old ++ xs) (sym (map-range_with_len_more f 0 n n e))

flat_more : {A : Type 0} (f : ℕ → List A) (a n j : ℕ) → a + n ≡ j → flat_map f (range_with_len a (n + 1)) ≡ flat_map f (range_with_len a n) ++ f j
flat_more f a zero j is = let e : a ≡ j = omega (arith, is) in append-nil (f a) ∙ ap f e
flat_more f a (suc n) j is =
    let on : a + 1 + n ≡ j = omega (arith, is) in
    let e : suc n + 1 ≡ suc (n + 1) = omega arith in
    ap (λ k. flat_map f (range_with_len a k)) e ∙ ap (λ xs. f a ++ xs) (flat_more f (a + 1) n j on) ∙ sym (append_assoc (f a) (flat_map f (range_with_len (a + 1) n)) (f j))

-- the ones that belong to one more number
pub some_more : {A : Type 0} (f : ℕ → List A) (n : ℕ) (old now : List A) → now ≡ old ++ flat_map f (range_with_len 0 n)
    → now ++ f n ≡ old ++ flat_map f (range_with_len 0 (n + 1))
some_more f n old now is =
    let e : 0 + n ≡ n = omega arith in
    ap (λ xs. xs ++ f n) is ∙ append_assoc old (flat_map f (range_with_len 0 n)) (f n) ∙ ap (λ xs. old ++ xs) (sym (flat_more f 0 n n e))

-- so many draws after so many times as many
pub behind_next : (k x n at : ℕ) → at ≡ behind x (k * n) → behind at k ≡ behind x (k * (n + 1))
behind_next k x n at is =
    let e : k * n + k ≡ k * (n + 1) = grind arith in
    ap (λ y. behind y k) is ∙ behind_add x (k * n) k ∙ ap (behind x) e

-- two draws after twice as many
pub behind_two : (x n at on now : ℕ) → at ≡ behind x (2 * n) → on ≡ next at → now ≡ next on → now ≡ behind x (2 * (n + 1))
behind_two x n at on now is one two =
    let e : 2 * n + 1 + 1 ≡ 2 * (n + 1) = omega arith in
    two ∙ ap next (one ∙ ap next is ∙ sym (behind_more x (2 * n))) ∙ sym (behind_more x (2 * n + 1)) ∙ ap (behind x) e
