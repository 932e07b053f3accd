-- How the failure counts of builders rise, and that their names stay.
use Rattle.std.proofs.Common.{◌≡◌, ◌⊎◌, inl, inr, ◌≤◌, ◌<◌, ◌+◌, ◌^◌, ◌-◌, ℕ, zero, suc, Bool, true, false, ◌||◌, cond, List, [], ◌∷◌, length, map, Option, Some, None, refl, sym, ap, ◌∙◌, subst, arith}
use Rattle.std.specs.Prelude.{IfSome, MatchOption, slice_get}
use Rattle.std.specs.List.{list_any, position_from}
use Rattle.std.specs.Option.{IsSomeAnd}
use Rattle.std.specs.Str.{bytes_eq}
use Rattle.builder_api.specs.Told.{Call, Told, HasFirstRisen, HasRisen, HasRisenAt, WasCalledAt, WasFirstCalled, first_named, place_named}
use Rattle.builder_api.proofs.Firsts.{first_at}
use Rattle.builder_api.proofs.Places.{itself, same_name}
use Rattle.build_run.specs.Books.{Did, Called, Cleared, WereDone}
use Rattle.build_history.specs.Handings.{HasRisenBy, HaveRisen}
use Rattle.build_history.proofs.Lists.{head_same, tail_same}

-- ---- names

none_placed : (n : List ℕ) (k : ℕ) (told : List Told) → position_from (λ b. bytes_eq b.named n) k told ≡ None → list_any (bytes_eq n) (map (λ b. b.named) told) ≡ true → ⊥
none_placed n k [] h any = cc
none_placed n k (b ∷ told) h any = by (bytes_eq b.named n) (bytes_eq n b.named) (none_placed n (k + 1) told) refl refl h any
  where
    by : (p q : Bool) → (position_from (λ x. bytes_eq x.named n) (k + 1) told ≡ None → list_any (bytes_eq n) (map (λ x. x.named) told) ≡ true → ⊥) → bytes_eq b.named n ≡ p → bytes_eq n b.named ≡ q → cond p (Some k) (position_from (λ x. bytes_eq x.named n) (k + 1) told) ≡ None
        → (q || list_any (bytes_eq n) (map (λ x. x.named) told)) ≡ true → ⊥
    by true q later is other g a = cc
    by false true later is other g a = let same : n ≡ b.named = same_name n b.named other in let no = sym is ∙ ap (λ z. bytes_eq z n) (sym same) ∙ itself n in cc
    by false false later is other g a = later g a

-- one of the builders has the name
pub builder_placed : (n : List ℕ) (names : List (List ℕ)) (told : List Told) → names ≡ map (λ b. b.named) told → list_any (bytes_eq n) names ≡ true → place_named n told ≡ None → ⊥
builder_placed n names told named there none = none_placed n 0 told none (ap (list_any (bytes_eq n)) (sym named) ∙ there)

names_at : (at : ℕ) (call : Call) (old new : List Told) → WasCalledAt at call old new → map (λ b. b.named) new ≡ map (λ b. b.named) old
names_at at call [] [] h = refl
names_at at call [] (y ∷ ys) h = absurd h
names_at at call (x ∷ xs) [] h = absurd h
names_at zero call (x ∷ xs) (y ∷ ys) h = λ i. h.0.named i ∷ map (λ b. b.named) (h.1 i)
names_at (suc at) call (x ∷ xs) (y ∷ ys) h = λ i. (h.0 i).named ∷ names_at at call xs ys h.1 i

-- a call leaves the names
pub called_names : (n : List ℕ) (call : Call) (old new : List Told) → WasFirstCalled n call old new → map (λ b. b.named) new ≡ map (λ b. b.named) old
called_names n call old new h = by (place_named n old) h
  where
    by : (o : Option ℕ) → MatchOption o (new ≡ old) (λ at. WasCalledAt at call old new) → map (λ b. b.named) new ≡ map (λ b. b.named) old
    by None g = ap (map (λ b. b.named)) g
    by (Some at) g = names_at at call old new g

-- so does all that was done
pub done_names : (ds : List Did) (a b : List Told) → WereDone ds a b → map (λ t. t.named) b ≡ map (λ t. t.named) a
done_names [] a b h = ap (map (λ t. t.named)) h
done_names (Called i handed answer ∷ ds) a b h = done_names ds h.0 b h.2 ∙ called_names i.command.builder _ a h.0 h.1.0
done_names (Cleared i ∷ ds) a b h = done_names ds h.0 b h.2 ∙ called_names i.command.builder _ a h.0 h.1

-- where the names are the same there is no builder of the name either
none_named : (n : List ℕ) (xs ys : List Told) → map (λ b. b.named) ys ≡ map (λ b. b.named) xs → first_named n xs ≡ None → first_named n ys ≡ None
none_named n [] [] same none = refl
none_named n [] (y ∷ ys) same none = cc
none_named n (x ∷ xs) [] same none = cc
none_named n (x ∷ xs) (y ∷ ys) same none =
    by (bytes_eq x.named n) (bytes_eq y.named n) (ap (λ m. bytes_eq m n) (head_same y.named x.named (map (λ b. b.named) ys) (map (λ b. b.named) xs) same)) none
    (none_named n xs ys (tail_same y.named x.named (map (λ b. b.named) ys) (map (λ b. b.named) xs) same))
  where
    by : (a b : Bool) → b ≡ a → cond a (Some x) (first_named n xs) ≡ None → (first_named n xs ≡ None → first_named n ys ≡ None) → cond b (Some y) (first_named n ys) ≡ None
    by true b e h next = cc
    by false false e h next = next h
    by false true e h next = cc

-- places are those of names
place_of_name : (n : List ℕ) (k : ℕ) (xs : List Told) → position_from (λ b. bytes_eq b.named n) k xs ≡ position_from (λ m. bytes_eq m n) k (map (λ b. b.named) xs)
place_of_name n k [] = refl
place_of_name n k (x ∷ xs) = ap (cond (bytes_eq x.named n) (Some k)) (place_of_name n (k + 1) xs)

same_place : (n : List ℕ) (xs ys : List Told) → map (λ b. b.named) ys ≡ map (λ b. b.named) xs → place_named n ys ≡ place_named n xs
same_place n xs ys same = place_of_name n 0 ys ∙ ap (position_from (λ m. bytes_eq m n) 0) same ∙ sym (place_of_name n 0 xs)

-- ---- numbers

risen_more : (last n m a b c : ℕ) → (a + n ≤ b) ⊎ ((last ≤ b) × (a ≤ b)) → (b + m ≤ c) ⊎ ((last ≤ c) × (b ≤ c)) → (a + (n + m) ≤ c) ⊎ ((last ≤ c) × (a ≤ c))
risen_more last n m a b c (inl h) (inl g) = inl (omega (arith, h, g))
risen_more last n m a b c (inl h) (inr g) = let e = g.1 in inr (g.0, omega (arith, h, e))
risen_more last n m a b c (inr h) (inl g) = let d = h.0 in let e = h.1 in inr (omega (arith, d, g), omega (arith, e, g))
risen_more last n m a b c (inr h) (inr g) = let d = h.1 in let e = g.1 in inr (g.0, omega (arith, d, e))

risen_once : (last a b : ℕ) → (a < b) ⊎ ((a ≡ last) × (b ≡ a)) → (a + 1 ≤ b) ⊎ ((last ≤ b) × (a ≤ b))
risen_once last a b (inl h) = inl (omega (arith, h))
risen_once last a b (inr h) = let d = h.0 in let e = h.1 in inr (omega (arith, d, e), omega (arith, e))

-- ---- counts

-- `HaveRisen` of the builders that were found
abbrev Rises : ℕ → Option Told → Option Told → Type 0
Rises n o p = MatchOption o (n ≡ 0) (λ a. IsSomeAnd p (λ b. HasRisenBy n a.faults b.faults))

-- nothing rose, and one thing after another
pub risen_none : (n : List ℕ) (told : List Told) → HaveRisen n 0 told told
risen_none n told = by (first_named n told)
  where
    by : (o : Option Told) → Rises 0 o o
    by None = refl
    by (Some a) = inl (omega arith)

pub risen_on : (name : List ℕ) (n m : ℕ) (a b c : List Told) → map (λ t. t.named) b ≡ map (λ t. t.named) a → HaveRisen name n a b → HaveRisen name m b c → HaveRisen name (n + m) a c
risen_on name n m a b c same h g = by (first_named name a) (first_named name b) (first_named name c) (none_named name a b same) h g
  where
    by : (o p q : Option Told) → (o ≡ None → p ≡ None) → Rises n o p → Rises m p q → Rises (n + m) o q
    by None None q none h g = omega (arith, h, g)
    by None (Some y) q none h g = let no = none refl in cc
    by (Some x) None q none h g = absurd h
    by (Some x) (Some y) None none h g = absurd g
    by (Some x) (Some y) (Some z) none h g = risen_more (2 ^ 64 - 1) n m x.faults y.faults z.faults h g

pub risen_after : (name : List ℕ) (n : ℕ) (a b c : List Told) → map (λ t. t.named) b ≡ map (λ t. t.named) a → HaveRisen name 0 a b → HaveRisen name n b c → HaveRisen name n a c
risen_after name n a b c same h g = subst (λ k. HaveRisen name k a c) (let e : 0 + n ≡ n = omega arith in e) (risen_on name 0 n a b c same h g)

-- no call lowers a count
call_risen : (at : ℕ) (call : Call) (xs ys : List Told) (n : List ℕ) → WasCalledAt at call xs ys → HaveRisen n 0 xs ys
call_risen at call [] [] n was = refl
call_risen at call [] (y ∷ ys) n was = absurd was
call_risen at call (x ∷ xs) [] n was = absurd was
call_risen zero call (x ∷ xs) (y ∷ ys) n was = by (bytes_eq x.named n) (bytes_eq y.named n) (ap (λ m. bytes_eq m n) was.0.named)
  where
    by : (a b : Bool) → b ≡ a → Rises 0 (cond a (Some x) (first_named n xs)) (cond b (Some y) (first_named n ys))
    by true true e = let le = was.0.faults in inl (omega (arith, le))
    by false false e = subst (HaveRisen n 0 xs) (sym was.1) (risen_none n xs)
    by true false e = cc
    by false true e = cc
call_risen (suc at) call (x ∷ xs) (y ∷ ys) n was = by (bytes_eq x.named n) (bytes_eq y.named n) (ap (λ b. bytes_eq b.named n) was.0) (call_risen at call xs ys n was.1)
  where
    by : (a b : Bool) → b ≡ a → HaveRisen n 0 xs ys → Rises 0 (cond a (Some x) (first_named n xs)) (cond b (Some y) (first_named n ys))
    by true true e h = let same : y.faults ≡ x.faults = ap (λ b. b.faults) was.0 in inl (omega (arith, same))
    by false false e h = h
    by true false e h = cc
    by false true e h = cc

first_risen : (m : List ℕ) (call : Call) (old new : List Told) (n : List ℕ) → WasFirstCalled m call old new → HaveRisen n 0 old new
first_risen m call old new n was = by (place_named m old) was
  where
    by : (o : Option ℕ) → MatchOption o (new ≡ old) (λ at. WasCalledAt at call old new) → HaveRisen n 0 old new
    by None h = subst (HaveRisen n 0 old) (sym h) (risen_none n old)
    by (Some at) h = call_risen at call old new n h

-- nor does anything that was done
pub done_risen : (ds : List Did) (a b : List Told) (n : List ℕ) → WereDone ds a b → HaveRisen n 0 a b
done_risen [] a b n h = subst (HaveRisen n 0 a) (sym h) (risen_none n a)
done_risen (Called i handed answer ∷ ds) a b n h =
    risen_on n 0 0 a h.0 b (called_names i.command.builder _ a h.0 h.1.0) (first_risen i.command.builder _ a h.0 n h.1.0) (done_risen ds h.0 b n h.2)
done_risen (Cleared i ∷ ds) a b n h = risen_on n 0 0 a h.0 b (called_names i.command.builder _ a h.0 h.1) (first_risen i.command.builder _ a h.0 n h.1) (done_risen ds h.0 b n h.2)

-- ---- a builder that failed

there : (xs : List Told) (k : ℕ) → k < length xs → slice_get xs k ≡ None → ⊥
there [] k h none = absurd (omega (arith, h))
there (x ∷ xs) zero h none = cc
there (x ∷ xs) (suc k) h none = there xs k (omega (arith, h)) none

place_risen : (at : ℕ) (old new : List Told) → at < length old → at < length new → HasRisenAt at old new
    → Rises 1 (slice_get old at) (slice_get new at)
place_risen at old new left right rose = by (slice_get old at) (slice_get new at) (there old at left) (there new at right) rose
  where
    by : (o p : Option Told) → (o ≡ None → ⊥) → (p ≡ None → ⊥) → IfSome o (λ x. IfSome p (λ y. HasRisen x.faults y.faults)) → Rises 1 o p
    by None p here never h = absurd (here refl)
    by (Some x) None here never h = absurd (never refl)
    by (Some x) (Some y) here never h = risen_once (2 ^ 64 - 1) x.faults y.faults h

at_first : (n : List ℕ) (xs : List Told) (at : ℕ) → place_named n xs ≡ Some at → (at < length xs) × (first_named n xs ≡ slice_get xs at)
at_first n xs at is = subst (λ o. MatchOption o (first_named n xs ≡ None) (λ k. (k < length xs) × (first_named n xs ≡ slice_get xs k))) is (first_at n xs)

first_failed : (m : List ℕ) (call : Call) (old new : List Told) → WasFirstCalled m call old new → HasFirstRisen m old new → (place_named m old ≡ None → ⊥) → HaveRisen m 1 old new
first_failed m call old new was rose is = by (place_named m old) refl rose is
  where
    by : (o : Option ℕ) → place_named m old ≡ o → IfSome o (λ at. HasRisenAt at old new) → (o ≡ None → ⊥) → HaveRisen m 1 old new
    by None same h never = absurd (never refl)
    by (Some at) same h never =
        let one = at_first m old at same in
        let other = at_first m new at (same_place m old new (called_names m call old new was) ∙ same) in
        subst (λ o. Rises 1 o (first_named m new)) (sym one.1) (subst (Rises 1 (slice_get old at)) (sym other.1) (place_risen at old new one.0 other.0 h))

-- of the builders of a name the first failed once, if it is the one that was called
pub failed_risen : (m : List ℕ) (call : Call) (old new : List Told) (name : List ℕ) → WasFirstCalled m call old new → HasFirstRisen m old new → list_any (bytes_eq m) (map (λ b. b.named) old) ≡ true
    → HaveRisen name (cond (bytes_eq m name) 1 0) old new
failed_risen m call old new name was rose is = by (bytes_eq m name) refl
  where
    by : (b : Bool) → bytes_eq m name ≡ b → HaveRisen name (cond b 1 0) old new
    by true same = subst (λ z. HaveRisen z 1 old new) (same_name m name same) (first_failed m call old new was rose (builder_placed m (map (λ b. b.named) old) old refl is))
    by false other = first_risen m call old new name was
