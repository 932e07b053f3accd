-- The first builder of a name.
use Rattle.std.proofs.Common.{◌≡◌, ◌≢◌, ℕ, zero, suc, cond, ◌+◌, ◌<◌, Bool, true, false, List, [], ◌∷◌, length, map, refl, sym, ap, ◌∙◌, Option, Some, None, subst, arith}
use Rattle.std.specs.Prelude.{IfSome, MatchOption, find, slice_get, is_some}
use Rattle.std.specs.List.{position_from}
use Rattle.std.specs.Str.{bytes_eq}
use Rattle.std.proofs.lemmas.List.{length-map}
use Rattle.builder_api.specs.Meanings.{Meaning, Meanings}
use Rattle.builder_api.specs.Told.{Call, Told, WasCalledAt, place_named, first_named, HaveMeanings}

-- the place that is found, counted from the list's own first
record Found (test : Told → Bool) (xs : List Told) (from at : ℕ) : Type 0 where
  steps : ℕ
  is : at ≡ from + steps
  within : steps < length xs
  first : find test xs ≡ slice_get xs steps

found : (test : Told → Bool) (from : ℕ) (xs : List Told) → MatchOption (position_from test from xs) (find test xs ≡ None) (Found test xs from)
found test from [] = refl
found test from (x ∷ xs) = by (test x) refl (position_from test (from + 1) xs) (found test (from + 1) xs)
  where
    by : (b : Bool) → test x ≡ b → (o : Option ℕ) → MatchOption o (find test xs ≡ None) (Found test xs (from + 1))
        → MatchOption (cond b (Some from) o) (find test (x ∷ xs) ≡ None) (Found test (x ∷ xs) from)
    by true e o h = record { steps = 0; is = omega arith; within = omega arith; first = ap (λ b. cond b (Some x) (find test xs)) e }
    by false e None h = ap (λ b. cond b (Some x) (find test xs)) e ∙ h
    by false e (Some at) h =
        record { steps = suc h.steps; is = let e = h.is in omega arith; within = let e = h.within in omega arith; first = ap (λ b. cond b (Some x) (find test xs)) e ∙ h.first }

-- the first builder of a name stands at its place
pub first_at : (n : List ℕ) (xs : List Told) → MatchOption (place_named n xs) (first_named n xs ≡ None) (λ at. (at < length xs) × (first_named n xs ≡ slice_get xs at))
first_at n xs = by (place_named n xs) (found (λ b. bytes_eq b.named n) 0 xs)
  where
    by : (o : Option ℕ) → MatchOption o (first_named n xs ≡ None) (Found (λ b. bytes_eq b.named n) xs 0)
        → MatchOption o (first_named n xs ≡ None) (λ at. (at < length xs) × (first_named n xs ≡ slice_get xs at))
    by None h = h
    by (Some at) h = let same : h.steps ≡ at = (let e = h.is in omega arith) in (subst (λ k. k < length xs) same h.within, h.first ∙ ap (slice_get xs) same)

at_place : (n : List ℕ) (xs : List Told) (at : ℕ) → place_named n xs ≡ Some at → (at < length xs) × (first_named n xs ≡ slice_get xs at)
at_place n xs at is = subst (λ o. MatchOption o (first_named n xs ≡ None) (λ at. (at < length xs) × (first_named n xs ≡ slice_get xs at))) is (first_at n xs)

pub place_within : {A : Type 0} (tells : A → Told) (n : List ℕ) (xs : List A) (at : ℕ) → place_named n (map tells xs) ≡ Some at → at < length xs
place_within tells n xs at is = subst (λ k. at < k) (length-map xs tells) (at_place n (map tells xs) at is).0

-- what holds of the meaning that it tells holds of the one that is known
pub means_at : (ms : Meanings) (P : Meaning → Type 0) (n : List ℕ) (xs : List Told) (at : ℕ) → HaveMeanings ms xs → place_named n xs ≡ Some at
    → IfSome (slice_get xs at) (λ b. IfSome b.means P) → IfSome (ms n) P
means_at ms P n xs at have is does = by (ms n) (have n)
  where
    told : (o : Option Told) (m : Meaning) → IfSome o (λ b. b.means ≡ Some m) → IfSome o (λ b. IfSome b.means P) → o ≢ None → P m
    told None m h g some = absurd (some refl)
    told (Some b) m h g some = subst (λ o. IfSome o P) h g

    there : (ys : List Told) (k : ℕ) → k < length ys → slice_get ys k ≢ None
    there [] k h = absurd (omega arith)
    there (y ∷ ys) zero h = λ e. let no : true ≡ false = ap is_some e in cc
    there (y ∷ ys) (suc k) h = there ys k (omega (arith, h))

    by : (o : Option Meaning) → IfSome o (λ m. IfSome (first_named n xs) (λ b. b.means ≡ Some m)) → IfSome o P
    by None h = tt
    by (Some m) h = told (slice_get xs at) m (subst (λ o. IfSome o (λ b. b.means ≡ Some m)) (at_place n xs at is).1 h) does (there xs at (at_place n xs at is).0)

-- a call changes neither which is the first of a name nor what it means
still_first : (at : ℕ) (call : Call) (xs ys : List Told) → WasCalledAt at call xs ys → (n : List ℕ) (m : Meaning)
    → IfSome (first_named n xs) (λ b. b.means ≡ Some m) → IfSome (first_named n ys) (λ b. b.means ≡ Some m)
still_first at call [] [] was n m h = tt
still_first at call [] (y ∷ ys) was n m h = absurd was
still_first at call (x ∷ xs) [] was n m h = absurd was
still_first zero call (x ∷ xs) (y ∷ ys) was n m h =
    by (bytes_eq x.named n) (bytes_eq y.named n) (ap (λ name. bytes_eq name n) was.0.named) h (λ g. subst (λ zs. IfSome (first_named n zs) (λ b. b.means ≡ Some m)) (sym was.1) g)
  where
    by : (a b : Bool) → b ≡ a → IfSome (cond a (Some x) (first_named n xs)) (λ b. b.means ≡ Some m) → (IfSome (first_named n xs) (λ b. b.means ≡ Some m) → IfSome (first_named n ys) (λ b. b.means ≡ Some m))
        → IfSome (cond b (Some y) (first_named n ys)) (λ b. b.means ≡ Some m)
    by true true e h next = was.0.means ∙ h
    by false false e h next = next h
    by true false e h next = cc
    by false true e h next = cc
still_first (suc at) call (x ∷ xs) (y ∷ ys) was n m h =
    by (bytes_eq x.named n) (bytes_eq y.named n) (ap (λ b. bytes_eq b.named n) was.0) h (still_first at call xs ys was.1 n m)
  where
    by : (a b : Bool) → b ≡ a → IfSome (cond a (Some x) (first_named n xs)) (λ b. b.means ≡ Some m) → (IfSome (first_named n xs) (λ b. b.means ≡ Some m) → IfSome (first_named n ys) (λ b. b.means ≡ Some m))
        → IfSome (cond b (Some y) (first_named n ys)) (λ b. b.means ≡ Some m)
    by true true e h next = ap (λ b. b.means) was.0 ∙ h
    by false false e h next = next h
    by true false e h next = cc
    by false true e h next = cc

-- so builders keep their meanings in a call
pub meanings_kept : (ms : Meanings) (at : ℕ) (call : Call) (xs ys : List Told) → WasCalledAt at call xs ys → HaveMeanings ms xs → HaveMeanings ms ys
meanings_kept ms at call xs ys was have n = by (ms n) (have n)
  where
    by : (o : Option Meaning) → IfSome o (λ m. IfSome (first_named n xs) (λ b. b.means ≡ Some m)) → IfSome o (λ m. IfSome (first_named n ys) (λ b. b.means ≡ Some m))
    by None h = tt
    by (Some m) h = still_first at call xs ys was n m h
