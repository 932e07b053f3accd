-- What was given up, one more or one fewer.
use Rattle.std.proofs.Common.{◌≡◌, ◌≢◌, ℕ, rules, Bool, true, false, nat_eq, ◌||◌, if◌then◌else◌, List, [], ◌∷◌, ◌++◌, refl, sym, ap, ◌∙◌, subst}
use Rattle.std.specs.Prelude.{Option, None, IsSome, is_some}
use Rattle.std.specs.List.{list_any}
use Rattle.tree_memory.specs.Spared.{Remembered, without}
use Rattle.tree_memory.specs.Inside.{Apart, AreSpent}

itself : (n : ℕ) → nat_eq n n ≡ true
itself n = search rules

same_number : (n k : ℕ) → nat_eq n k ≡ true → n ≡ k
same_number n k h = search (rules, h)

not_true : (b : Bool) → (b ≡ true → ⊥) → b ≡ false
not_true true h = absurd (h refl)
not_true false h = refl

differ : true ≡ false → ⊥
differ h = cc

unequal : (n k : ℕ) → n ≢ k → nat_eq n k ≡ false
unequal n k h = not_true (nat_eq n k) (λ e. h (same_number n k e))

-- ---- one more number

last_there : (n : ℕ) (xs : List ℕ) → list_any (nat_eq n) (xs ++ n ∷ []) ≡ true
last_there n [] = ap (λ b. b || false) (itself n)
last_there n (x ∷ xs) = by (nat_eq n x) (last_there n xs)
  where
    by : (b : Bool) → list_any (nat_eq n) (xs ++ n ∷ []) ≡ true → (b || list_any (nat_eq n) (xs ++ n ∷ [])) ≡ true
    by true h = refl
    by false h = h

other_than_last : (k n : ℕ) → k ≢ n → (xs : List ℕ) → list_any (nat_eq k) (xs ++ n ∷ []) ≡ list_any (nat_eq k) xs
other_than_last k n h [] = ap (λ b. b || false) (unequal k n h)
other_than_last k n h (x ∷ xs) = ap (λ b. nat_eq k x || b) (other_than_last k n h xs)

neither : (a b : Bool) → (a || b) ≡ false → (a ≡ false) × (b ≡ false)
neither true b h = absurd (differ h)
neither false b h = (refl, h)

not_head : (n x : ℕ) (xs : List ℕ) → list_any (nat_eq n) (x ∷ xs) ≡ false → x ≢ n
not_head n x xs h e = differ (sym (itself n) ∙ ap (nat_eq n) (sym e) ∙ (neither (nat_eq n x) (list_any (nat_eq n) xs) h).0)

apart_push : (n : ℕ) (xs : List ℕ) → Apart xs → list_any (nat_eq n) xs ≡ false → Apart (xs ++ n ∷ [])
apart_push n [] h out = (refl, tt)
apart_push n (x ∷ xs) h out = (other_than_last x n (not_head n x xs out) xs ∙ h.0, apart_push n xs h.1 (neither (nat_eq n x) (list_any (nat_eq n) xs) out).1)

popped : (n x : ℕ) (xs : List ℕ) → list_any (nat_eq x) (xs ++ n ∷ []) ≡ false → Apart xs × (list_any (nat_eq n) xs ≡ false) → Apart (x ∷ xs) × (list_any (nat_eq n) (x ∷ xs) ≡ false)
popped n x xs h rest = ((sym (other_than_last x n other xs) ∙ h, rest.0), (λ i. unequal n x (λ e. other (sym e)) i || rest.1 i))
  where
    other : x ≢ n
    other e = differ (sym (last_there n xs) ∙ ap (λ k. list_any (nat_eq k) (xs ++ n ∷ [])) (sym e) ∙ h)

apart_pop : (n : ℕ) (xs : List ℕ) → Apart (xs ++ n ∷ []) → Apart xs × (list_any (nat_eq n) xs ≡ false)
apart_pop n [] h = (tt, refl)
apart_pop n (x ∷ xs) h = popped n x xs h.0 (apart_pop n xs h.1)

-- ---- what is left

here_none : (r : Remembered) (xs : List ℕ) (k : ℕ) → list_any (nat_eq k) xs ≡ true → without r xs k ≡ None
here_none r xs k h = ap (λ b. if b then None else r k) h

elsewhere : (r : Remembered) (xs : List ℕ) (k : ℕ) → list_any (nat_eq k) xs ≡ false → without r xs k ≡ r k
elsewhere r xs k h = ap (λ b. if b then None else r k) h

no_none : {X : Type 0} (o : Option X) → o ≡ None → IsSome o → ⊥
no_none o e h = differ (sym h ∙ ap is_some e)

-- what is left was not given up, and is remembered
pub left_out : (r : Remembered) (xs : List ℕ) (n : ℕ) → IsSome (without r xs n) → list_any (nat_eq n) xs ≡ false
left_out r xs n h = not_true (list_any (nat_eq n) xs) (λ e. no_none (without r xs n) (here_none r xs n e) h)

pub left_there : (r : Remembered) (xs : List ℕ) (n : ℕ) → IsSome (without r xs n) → IsSome (r n)
left_there r xs n h = subst IsSome (elsewhere r xs n (left_out r xs n h)) h

-- a number that isn't in use was not given up
pub fresh_out : (r : Remembered) (xs : List ℕ) (n : ℕ) → AreSpent r xs → r n ≡ None → list_any (nat_eq n) xs ≡ false
fresh_out r xs n are e = not_true (list_any (nat_eq n) xs) (λ h. no_none (r n) e (are.there n h))

pub fresh_left : (r : Remembered) (xs : List ℕ) (n : ℕ) → r n ≡ None → without r xs n ≡ None
fresh_left r xs n e = by (list_any (nat_eq n) xs)
  where
    by : (b : Bool) → (if b then None else r n) ≡ None
    by true = refl
    by false = e

-- of all numbers but n the same is remembered
abbrev pub Same : ℕ → Remembered → Remembered → Type 0
Same n r s = (k : ℕ) → k ≢ n → s k ≡ r k

pub same_left : (r s : Remembered) (xs : List ℕ) (n : ℕ) → Same n r s → (k : ℕ) → k ≢ n → without s xs k ≡ without r xs k
same_left r s xs n same k h = ap (λ t. if list_any (nat_eq k) xs then None else t) (same k h)

pub same_spent : (r s : Remembered) (xs : List ℕ) (n : ℕ) → list_any (nat_eq n) xs ≡ false → Same n r s → AreSpent r xs → AreSpent s xs
same_spent r s xs n out same are = record {
  there = λ k h. subst IsSome (sym (same k (λ e. differ (sym h ∙ ap (λ j. list_any (nat_eq j) xs) e ∙ out)))) (are.there k h);
  apart = are.apart;
}

-- ---- one more, one fewer

pub spent_push : (r : Remembered) (xs : List ℕ) (n : ℕ) → AreSpent r xs → IsSome (without r xs n) → AreSpent r (xs ++ n ∷ [])
spent_push r xs n are h = record {
  there = λ k e. by k e (nat_eq k n) refl;
  apart = apart_push n xs are.apart (left_out r xs n h);
}
  where
    by : (k : ℕ) → list_any (nat_eq k) (xs ++ n ∷ []) ≡ true → (b : Bool) → nat_eq k n ≡ b → IsSome (r k)
    by k e true is = subst (λ j. IsSome (r j)) (sym (same_number k n is)) (left_there r xs n h)
    by k e false is = are.there k (sym (other_than_last k n (λ same. differ (sym (itself n) ∙ ap (λ j. nat_eq j n) (sym same) ∙ is)) xs) ∙ e)

pub left_push : (r : Remembered) (xs : List ℕ) (n : ℕ) → (k : ℕ) → k ≢ n → without r (xs ++ n ∷ []) k ≡ without r xs k
left_push r xs n k h = ap (λ b. if b then None else r k) (other_than_last k n h xs)

pub spent_pop : (r s : Remembered) (xs : List ℕ) (n : ℕ) → AreSpent r (xs ++ n ∷ []) → Same n r s → AreSpent s xs
spent_pop r s xs n are same = same_spent r s xs n out same (record { there = λ k h. are.there k (more k h); apart = (apart_pop n xs are.apart).0 })
  where
    out : list_any (nat_eq n) xs ≡ false
    out = (apart_pop n xs are.apart).1

    more : (k : ℕ) → list_any (nat_eq k) xs ≡ true → list_any (nat_eq k) (xs ++ n ∷ []) ≡ true
    more k h = other_than_last k n (λ e. differ (sym h ∙ ap (λ j. list_any (nat_eq j) xs) e ∙ out)) xs ∙ h

pub left_pop : (r s : Remembered) (xs : List ℕ) (n : ℕ) → s n ≡ None → Same n r s → without s xs ≡ without r (xs ++ n ∷ [])
left_pop r s xs n gone same i k = by k (nat_eq k n) refl i
  where
    by : (k : ℕ) → (b : Bool) → nat_eq k n ≡ b → without s xs k ≡ without r (xs ++ n ∷ []) k
    by k true is = subst (λ j. without s xs j ≡ without r (xs ++ n ∷ []) j) (sym (same_number k n is)) (fresh_left s xs n gone ∙ sym (here_none r (xs ++ n ∷ []) n (last_there n xs)))
    by k false is =
        let other : k ≢ n = λ e. differ (sym (itself n) ∙ ap (λ j. nat_eq j n) (sym e) ∙ is) in
        same_left r s xs n same k other ∙ sym (left_push r xs n k other)
