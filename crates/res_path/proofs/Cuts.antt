-- Where a text is cut.
use Rattle.std.proofs.Common.{◌≡◌, ℕ, ◌+◌, ◌<◌, ◌≤◌, Bool, true, false, cond, List, [], ◌∷◌, length, take, drop, Some, None, refl, ◌∙◌, ap, arith, nat_lt}
use Rattle.std.specs.List.{slice_split, count_by, position, position_or_len, onto_first}
use Rattle.std.proofs.lemmas.Grind.{common_steps}
use Rattle.std.proofs.lemmas.Bool.Decides.{nat_tests}
use Rattle.std.proofs.lemmas.List.Splits.{slice_split-cons_no, slice_split_first, length-slice_split}
use Rattle.res_path.specs.Parts.{is_slash, part_count}

some_place : (b : Bool) (n i : ℕ) → cond b (Some n) None ≡ Some i → (b ≡ true) × (n ≡ i)
some_place true n i e = (refl, cc)
some_place false n i e = cc

no_place : (b : Bool) (n : ℕ) → cond b (Some n) None ≡ None → b ≡ false
no_place true n e = cc
no_place false n e = refl

-- where no element passes, there is one part
one_part : (p : ℕ → Bool) (xs : List ℕ) → length xs ≤ position_or_len p xs → slice_split p xs ≡ xs ∷ []
one_part p [] h = refl
one_part p (x ∷ xs) h = by (p x) refl (one_part p xs)
  where
    by : (b : Bool) → p x ≡ b → (length xs ≤ position_or_len p xs → slice_split p xs ≡ xs ∷ []) → slice_split p (x ∷ xs) ≡ (x ∷ xs) ∷ []
    by true e go = absurd (let none : position_or_len p (x ∷ xs) ≡ 0 = rw e refl in grind (arith, common_steps))
    by false e go = slice_split-cons_no p x xs e ∙ ap (onto_first x) (go (let more : position_or_len p (x ∷ xs) ≡ 1 + position_or_len p xs = rw e refl in grind (arith, common_steps)))

pub cut_None : (p : ℕ → Bool) (xs : List ℕ) → position p xs ≡ None → slice_split p xs ≡ xs ∷ []
cut_None p xs e =
    let none = no_place (nat_lt (position_or_len p xs) (length xs)) (position_or_len p xs) e in
    one_part p xs (grind (arith, nat_tests))

pub cut_Some : (p : ℕ → Bool) (xs : List ℕ) (i : ℕ) → position p xs ≡ Some i → slice_split p xs ≡ take i xs ∷ slice_split p (drop (i + 1) xs)
cut_Some p xs i e =
    let found = some_place (nat_lt (position_or_len p xs) (length xs)) (position_or_len p xs) i e in
    let here : position_or_len p xs < length xs = grind (arith, nat_tests) in
    slice_split_first p xs 0 here ∙ ap (λ n. take n xs ∷ slice_split p (drop (n + 1) xs)) found.1

-- how many parts a text has
pub counted : (text : List ℕ) → 2 ≤ length text → part_count text ≡ count_by is_slash (drop 1 text) + 1
counted [] h = absurd (omega arith)
counted (b ∷ []) h = absurd (grind (arith, common_steps))
counted (b ∷ c ∷ bytes) h = length-slice_split is_slash (c ∷ bytes)
