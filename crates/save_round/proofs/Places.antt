-- Calls by their places.
use Rattle.std.proofs.Common.{◌≡◌, ℕ, zero, suc, ◌+◌, ◌<◌, ◌≤◌, List, [], ◌∷◌, ◌++◌, length, map, refl, sym, subst, arith}
use Rattle.std.proofs.lemmas.List.{length-map}
use Rattle.save_round.specs.Told.{Call, Told}
use Rattle.save_round.specs.Firsts.{FirstsHad, by_place}
use Rattle.save_round.proofs.Called.{and_then, as_well, none_had}

appended : {A : Type 0} (n : ℕ) (a b c d e f : List A) (k : ℕ) → by_place n a b c k ++ by_place n d e f k ≡ by_place n (a ++ d) (b ++ e) (c ++ f) k
appended zero a b c d e f zero = refl
appended zero a b c d e f (suc k) = refl
appended (suc n) a b c d e f zero = refl
appended (suc n) a b c d e f (suc k) = appended n a b c d e f k

-- one place further
pub one_further : {A : Type 0} (n : ℕ) (a c : A) (k : ℕ) → by_place n a a c k ≡ by_place (suc n) a c c k
one_further zero a c zero = refl
one_further zero a c (suc zero) = refl
one_further zero a c (suc (suc k)) = refl
one_further (suc n) a c zero = refl
one_further (suc n) a c (suc k) = one_further n a c k

pub before_it : {A : Type 0} (n : ℕ) (a b c : A) (k : ℕ) → k < n → by_place n a b c k ≡ a
before_it zero a b c k lt = absurd (omega (arith, lt))
before_it (suc n) a b c zero lt = refl
before_it (suc n) a b c (suc k) lt = before_it n a b c k (omega (arith, lt))

-- none before the first place
pub at_head : (call : Call) (xs : List Told) → FirstsHad (by_place 0 (call ∷ []) [] []) xs xs
at_head call xs = as_well (λ k. []) (by_place 0 (call ∷ []) [] []) xs xs (λ k lt. by k) (none_had xs)
  where
    by : (k : ℕ) → [] ≡ by_place 0 (call ∷ []) [] [] k
    by zero = refl
    by (suc k) = refl

-- those before a place had a call, and then the one at the place another
pub up_to : (n : ℕ) (call other : Call) (xs ys zs : List Told) → FirstsHad (by_place n (call ∷ []) [] []) xs ys → FirstsHad (by_place n [] (other ∷ []) []) ys zs
    → FirstsHad (by_place n (call ∷ []) (other ∷ []) []) xs zs
up_to n call other xs ys zs h k =
    as_well (λ m. by_place n (call ∷ []) [] [] m ++ by_place n [] (other ∷ []) [] m) (by_place n (call ∷ []) (other ∷ []) []) xs zs
    (λ m lt. appended n (call ∷ []) [] [] [] (other ∷ []) [] m) (and_then (by_place n (call ∷ []) [] []) (by_place n [] (other ∷ []) []) xs ys zs h k)

-- the next one had it too
pub next : (n : ℕ) (call : Call) (xs ys zs : List Told) → FirstsHad (by_place n (call ∷ []) [] []) xs ys → FirstsHad (by_place n [] (call ∷ []) []) ys zs
    → FirstsHad (by_place (n + 1) (call ∷ []) [] []) xs zs
next n call xs ys zs h k =
    let on : suc n ≡ n + 1 = omega arith in
    subst (λ m. FirstsHad (by_place m (call ∷ []) [] []) xs zs) on
    (as_well (by_place n (call ∷ []) (call ∷ []) []) (by_place (suc n) (call ∷ []) [] []) xs zs (λ m lt. one_further n (call ∷ []) [] m) (up_to n call call xs ys zs h k))

-- all had it
pub all_had : (n : ℕ) (call : Call) (xs ys : List Told) → length xs ≤ n → FirstsHad (by_place n (call ∷ []) [] []) xs ys → FirstsHad (λ k. call ∷ []) xs ys
all_had n call xs ys le h = as_well (by_place n (call ∷ []) [] []) (λ k. call ∷ []) xs ys (λ k lt. before_it n (call ∷ []) [] [] k (omega (arith, lt, le))) h

pub each_had : {A : Type 0} (tells : A → Told) (n : ℕ) (call : Call) (xs ys : List A) → length xs ≤ n → FirstsHad (by_place n (call ∷ []) [] []) (map tells xs) (map tells ys)
    → FirstsHad (λ k. call ∷ []) (map tells xs) (map tells ys)
each_had tells n call xs ys le h = all_had n call (map tells xs) (map tells ys) (subst (λ m. m ≤ n) (sym (length-map xs tells)) le) h

-- then those before the place had one more
pub rolled : (n : ℕ) (call other last : Call) (xs ys zs : List Told) → FirstsHad (by_place n (call ∷ []) (other ∷ []) []) xs ys → FirstsHad (by_place n (last ∷ []) [] []) ys zs
    → FirstsHad (by_place n (call ∷ last ∷ []) (other ∷ []) []) xs zs
rolled n call other last xs ys zs h k =
    as_well (λ m. by_place n (call ∷ []) (other ∷ []) [] m ++ by_place n (last ∷ []) [] [] m) (by_place n (call ∷ last ∷ []) (other ∷ []) []) xs zs
    (λ m lt. appended n (call ∷ []) (other ∷ []) [] (last ∷ []) [] [] m) (and_then (by_place n (call ∷ []) (other ∷ []) []) (by_place n (last ∷ []) [] []) xs ys zs h k)

-- where each had its own before the place, one more for each
pub all_rolled : (n : ℕ) (own : ℕ → Call) (other last : Call) (xs ys zs : List Told) → FirstsHad (λ m. by_place n (own m ∷ []) (other ∷ []) [] m) xs ys → FirstsHad (λ m. last ∷ []) ys zs
    → FirstsHad (λ m. by_place n (own m ∷ last ∷ []) (other ∷ last ∷ []) (last ∷ []) m) xs zs
all_rolled n own other last xs ys zs h k =
    as_well (λ m. by_place n (own m ∷ []) (other ∷ []) [] m ++ last ∷ []) (λ m. by_place n (own m ∷ last ∷ []) (other ∷ last ∷ []) (last ∷ []) m) xs zs
    (λ m lt. followed n (own m ∷ []) (other ∷ []) [] m) (and_then (λ m. by_place n (own m ∷ []) (other ∷ []) [] m) (λ m. last ∷ []) xs ys zs h k)
  where
    followed : (n : ℕ) (a b c : List Call) (k : ℕ) → by_place n a b c k ++ last ∷ [] ≡ by_place n (a ++ last ∷ []) (b ++ last ∷ []) (c ++ last ∷ []) k
    followed zero a b c zero = refl
    followed zero a b c (suc k) = refl
    followed (suc n) a b c zero = refl
    followed (suc n) a b c (suc k) = followed n a b c k

-- where each had its own before the place, then the one at the place another
pub own_up_to : (n : ℕ) (own : ℕ → Call) (other : Call) (xs ys zs : List Told) → FirstsHad (λ m. by_place n (own m ∷ []) [] [] m) xs ys → FirstsHad (by_place n [] (other ∷ []) []) ys zs
    → FirstsHad (λ m. by_place n (own m ∷ []) (other ∷ []) [] m) xs zs
own_up_to n own other xs ys zs h k =
    as_well (λ m. by_place n (own m ∷ []) [] [] m ++ by_place n [] (other ∷ []) [] m) (λ m. by_place n (own m ∷ []) (other ∷ []) [] m) xs zs
    (λ m lt. appended n (own m ∷ []) [] [] [] (other ∷ []) [] m) (and_then (λ m. by_place n (own m ∷ []) [] [] m) (by_place n [] (other ∷ []) []) xs ys zs h k)
