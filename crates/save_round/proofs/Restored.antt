-- Participants that get what they kept, one after another.
use Rattle.std.proofs.Common.{◌≡◌, ℕ, zero, suc, ◌+◌, ◌<◌, ◌≤◌, Bool, true, false, if◌then◌else◌, List, [], ◌∷◌, ◌++◌, length, map, get_or, slice_get, slice_set, Option, Some, None, Result, Ok, Err, IsSome, IsSomeAnd, OnErr, refl, sym, ap, ap₂, ◌∙◌, subst, append-nil, arith}
use Rattle.std.proofs.lemmas.List.{length-map}
use Rattle.std.specs.declared.alloc.AllocError.{AllocError}
use Rattle.save_round.specs.declared.restoring.KeptState.{KeptState}
use Rattle.save_round.specs.Told.{Call, Told, HadCalls}
use Rattle.save_round.specs.Firsts.{HadWhere, FirstsHad, firsts, by_place}
use Rattle.save_round.specs.Restoring.{HasStoppedRestoring, WereRestored, kept_for_each, kept_under, kept_where, names, restores, restoring}
use Rattle.save_round.proofs.Called.{and_then, as_well, named_kept, none_had, one_had, same_firsts}
use Rattle.save_round.proofs.Places.{before_it}

names_kept : (bs : List Bool) (f : ℕ → List Call) (xs ys : List Told) → HadWhere bs f xs ys → names ys ≡ names xs
names_kept [] f [] [] h = refl
names_kept [] f [] (y ∷ ys) h = absurd h
names_kept [] f (x ∷ xs) ys h = absurd h
names_kept (b ∷ bs) f [] ys h = absurd h
names_kept (b ∷ bs) f (x ∷ xs) [] h = absurd h
names_kept (b ∷ bs) f (x ∷ xs) (y ∷ ys) h = ap₂ ◌∷◌ (named_kept (if b then f 0 else []) x y h.0) (names_kept bs (λ k. f (suc k)) xs ys h.1)

-- names stay through calls
same_names : (f : ℕ → List Call) (xs ys : List Told) → FirstsHad f xs ys → names ys ≡ names xs
same_names f xs ys h = names_kept (firsts xs) f xs ys h

joined : (n : ℕ) (a b : List Call) (k : ℕ) → by_place n a [] [] k ++ by_place n [] b [] k ≡ by_place n a b [] k
joined zero a b zero = refl
joined zero a b (suc k) = refl
joined (suc n) a b zero = append-nil a
joined (suc n) a b (suc k) = joined n a b k

-- each had its own before the place, and then the one at the place others
up_to_it : (n : ℕ) (own : ℕ → List Call) (others : List Call) (xs ys zs : List Told) → FirstsHad (λ k. by_place n (own k) [] [] k) xs ys → FirstsHad (by_place n [] others []) ys zs
    → FirstsHad (λ k. by_place n (own k) others [] k) xs zs
up_to_it n own others xs ys zs h k =
    as_well (λ m. by_place n (own m) [] [] m ++ by_place n [] others [] m) (λ m. by_place n (own m) others [] m) xs zs
    (λ m lt. joined n (own m) others m) (and_then (λ m. by_place n (own m) [] [] m) (by_place n [] others []) xs ys zs h k)

further : (n : ℕ) (own : ℕ → List Call) (k : ℕ) → by_place n (own k) (own n) [] k ≡ by_place (suc n) (own k) [] [] k
further zero own zero = refl
further zero own (suc zero) = refl
further zero own (suc (suc k)) = refl
further (suc n) own zero = refl
further (suc n) own (suc k) = further n (λ m. own (suc m)) k

right_here : (n : ℕ) (a : List Call) (own : ℕ → List Call) (k : ℕ) → by_place n a (own n) [] k ≡ by_place n a (own k) [] k
right_here zero a own zero = refl
right_here zero a own (suc k) = refl
right_here (suc n) a own zero = refl
right_here (suc n) a own (suc k) = right_here n a (λ m. own (suc m)) k

-- what each gets
abbrev own_of : List KeptState → List Told → Result (Unit {0}) AllocError → ℕ → List Call
own_of kept xs answer k = restoring kept answer (slice_get (names xs) k)

-- those before the place were restored
abbrev pub RestoredSoFar : List KeptState → ℕ → List Told → List Told → Type 0
RestoredSoFar kept n xs ys = FirstsHad (λ k. by_place n (own_of kept xs (Ok tt) k) [] [] k) xs ys

-- none was restored yet
pub restored_none : (kept : List KeptState) (xs : List Told) → RestoredSoFar kept 0 xs xs
restored_none kept xs = as_well (λ k. []) (λ k. by_place 0 (own_of kept xs (Ok tt) k) [] [] k) xs xs (λ k lt. by (own_of kept xs (Ok tt) k) k) (none_had xs)
  where
    by : (a : List Call) (k : ℕ) → [] ≡ by_place 0 a [] [] k
    by a zero = refl
    by a (suc k) = refl

then_it : (kept : List KeptState) (n : ℕ) (answer : Result (Unit {0}) AllocError) (xs ys zs : List Told) → RestoredSoFar kept n xs ys
    → FirstsHad (by_place n [] (own_of kept ys answer n) []) ys zs → FirstsHad (λ k. by_place n (own_of kept xs (Ok tt) k) (own_of kept xs answer n) [] k) xs zs
then_it kept n answer xs ys zs h k =
    up_to_it n (own_of kept xs (Ok tt)) (own_of kept xs answer n) xs ys zs h
    (subst (λ ns. FirstsHad (by_place n [] (restoring kept answer (slice_get ns n)) []) ys zs) (same_names (λ k. by_place n (own_of kept xs (Ok tt) k) [] [] k) xs ys h) k)

-- one more was restored
pub restored_next : (kept : List KeptState) (n : ℕ) (xs ys zs : List Told) → RestoredSoFar kept n xs ys
    → FirstsHad (by_place n [] (own_of kept ys (Ok tt) n) []) ys zs → RestoredSoFar kept (n + 1) xs zs
restored_next kept n xs ys zs h k =
    let on : suc n ≡ n + 1 = omega arith in
    subst (λ m. RestoredSoFar kept m xs zs) on
    (as_well (λ k. by_place n (own_of kept xs (Ok tt) k) (own_of kept xs (Ok tt) n) [] k) (λ k. by_place (suc n) (own_of kept xs (Ok tt) k) [] [] k) xs zs
    (λ k lt. further n (own_of kept xs (Ok tt)) k) (then_it kept n (Ok tt) xs ys zs h k))

-- all were restored
pub restored_all : {A : Type 0} (tells : A → Told) (kept : List KeptState) (n : ℕ) (xs ys : List A) → length xs ≤ n → RestoredSoFar kept n (map tells xs) (map tells ys) → WereRestored kept (map tells xs) (map tells ys)
restored_all tells kept n xs ys le h =
    as_well (λ k. by_place n (own_of kept (map tells xs) (Ok tt) k) [] [] k) (own_of kept (map tells xs) (Ok tt)) (map tells xs) (map tells ys)
    (λ k lt. before_it n (own_of kept (map tells xs) (Ok tt) k) [] [] k (omega (arith, lt, subst (λ m. m ≤ n) (sym (length-map xs tells)) le))) h

-- one wanted memory
pub restoring_stopped : (kept : List KeptState) (n : ℕ) (fault : AllocError) (xs ys zs : List Told) → RestoredSoFar kept n xs ys
    → FirstsHad (by_place n [] (own_of kept ys (Err fault) n) []) ys zs → slice_get (firsts ys) n ≡ Some true
    → IsSomeAnd (slice_get (names ys) n) (λ name. IsSome (kept_under kept name)) → HasStoppedRestoring kept xs zs
restoring_stopped kept n fault xs ys zs h k first has = record {
  at = n;
  fault = fault;
  first = ap (λ bs. slice_get bs n) (sym (same_firsts (λ k. by_place n (own_of kept xs (Ok tt) k) [] [] k) xs ys h)) ∙ first;
  has = subst (λ ns. IsSomeAnd (slice_get ns n) (λ name. IsSome (kept_under kept name))) (same_names (λ k. by_place n (own_of kept xs (Ok tt) k) [] [] k) xs ys h) has;
  calls = as_well (λ k. by_place n (own_of kept xs (Ok tt) k) (own_of kept xs (Err fault) n) [] k) (λ k. by_place n (own_of kept xs (Ok tt) k) (own_of kept xs (Err fault) k) [] k) xs zs
      (λ k lt. right_here n (own_of kept xs (Ok tt) k) (own_of kept xs (Err fault)) k) (then_it kept n (Err fault) xs ys zs h k);
}

module _ {A : Type 0} (tells : A → Told) where
  name_at : (xs : List A) (at : ℕ) (d : A) → at < length xs → slice_get (names (map tells xs)) at ≡ Some (tells (get_or xs at d)).named
  name_at [] at d lt = absurd (omega (arith, lt))
  name_at (x ∷ xs) zero d lt = refl
  name_at (x ∷ xs) (suc at) d lt = name_at xs at d (omega (arith, lt))

  -- the first of its name got what is kept under it
  pub one_restored : (kept : List KeptState) (answer : Result (Unit {0}) AllocError) (xs : List A) (at : ℕ) (y d : A) → at < length xs → slice_get (firsts (map tells xs)) at ≡ Some true
      → HadCalls (restores (kept_under kept (tells (get_or xs at d)).named) answer) (tells (get_or xs at d)) (tells y)
      → FirstsHad (by_place at [] (restoring kept answer (slice_get (names (map tells xs)) at)) []) (map tells xs) (map tells (slice_set xs at y))
  one_restored kept answer xs at y d lt first had =
      subst (λ name. FirstsHad (by_place at [] (restoring kept answer name) []) (map tells xs) (map tells (slice_set xs at y))) (sym (name_at xs at d lt))
      (one_had tells (restores (kept_under kept (tells (get_or xs at d)).named) answer) xs at y d lt first had)

  -- something is kept under its name
  pub one_has : (kept : List KeptState) (answer : Result (Unit {0}) AllocError) (xs : List A) (at : ℕ) (d : A) → at < length xs
      → OnErr answer (IsSome (kept_under kept (tells (get_or xs at d)).named)) → OnErr answer (IsSomeAnd (slice_get (names (map tells xs)) at) (λ name. IsSome (kept_under kept name)))
  one_has kept answer xs at d lt has = subst (λ name. OnErr answer (IsSomeAnd name (λ n. IsSome (kept_under kept n)))) (sym (name_at xs at d lt)) has

  kept_at : (kept : List KeptState) (bs : List Bool) (xs : List A) (at : ℕ) (b : Bool) (d : A) → slice_get bs at ≡ Some b → at < length xs
      → slice_get (kept_where kept bs (map tells xs)) at ≡ Some (if b then kept_under kept (tells (get_or xs at d)).named else None)
  kept_at kept [] xs zero b d is lt = cc
  kept_at kept [] xs (suc at) b d is lt = cc
  kept_at kept (c ∷ bs) [] at b d is lt = absurd (omega (arith, lt))
  kept_at kept (c ∷ bs) (x ∷ xs) zero b d is lt = ap (λ (o : Option Bool). by o) is
    where
      by : Option Bool → Option (Option KeptState)
      by None = None
      by (Some e) = Some (if e then kept_under kept (tells x).named else None)
  kept_at kept (c ∷ bs) (x ∷ xs) (suc at) b d is lt = kept_at kept bs xs at b d is (omega (arith, lt))

  -- what is kept for the one at a place, where it is the first of its name
  pub is_kept : (kept : List KeptState) (xs ys : List A) (at : ℕ) (b : Bool) (d : A) → ys ≡ xs → slice_get (firsts (map tells ys)) at ≡ Some b → b ≡ true → at < length xs
      → slice_get (kept_for_each kept (map tells xs)) at ≡ Some (kept_under kept (tells (get_or ys at d)).named)
  is_kept kept xs ys at b d same is first lt =
      subst (λ zs. slice_get (kept_for_each kept (map tells zs)) at ≡ Some (kept_under kept (tells (get_or ys at d)).named)) same
      (kept_at kept (firsts (map tells ys)) ys at true d (is ∙ ap Some first) (subst (λ zs. at < length zs) (sym same) lt))

  -- and where it isn't
  pub not_kept : (kept : List KeptState) (xs ys : List A) (at : ℕ) (b : Bool) → ys ≡ xs → slice_get (firsts (map tells ys)) at ≡ Some b → b ≡ false → at < length xs
      → slice_get (kept_for_each kept (map tells xs)) at ≡ Some None
  not_kept kept [] ys at b same is later lt = absurd (omega (arith, lt))
  not_kept kept (x ∷ xs) ys at b same is later lt =
      kept_at kept (firsts (map tells (x ∷ xs))) (x ∷ xs) at false x (subst (λ zs. slice_get (firsts (map tells zs)) at ≡ Some false) same (is ∙ ap Some later)) lt
