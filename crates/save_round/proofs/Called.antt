-- Calls of participants, one after another.
use Rattle.std.proofs.Common.{◌≡◌, ℕ, zero, suc, ◌<◌, ◌≤◌, ◌⊎◌, inl, inr, Bool, true, false, not, ◌||◌, if◌then◌else◌, List, [], ◌∷◌, ◌++◌, length, map, take, get_or, slice_get, slice_set, Option, Some, None, IfSome, IsSomeAnd, refl, sym, ap, ap₂, ◌∙◌, subst, le_trans, le_of_eq, eq-or-lt_of_le, arith}
use Rattle.std.specs.List.{list_any}
use Rattle.std.specs.Str.{bytes_eq}
use Rattle.std.proofs.lemmas.List.{length-map}
use Rattle.save_round.specs.Told.{Call, Told, WasCalled, HadCalls, HasRisen, HasRisenAt}
use Rattle.save_round.specs.Firsts.{firsts_after, firsts, HadWhere, FirstsHad, by_place}

-- calls after calls
append : (cs ds : List Call) (x y z : Told) → HadCalls cs x y → HadCalls ds y z → HadCalls (cs ++ ds) x z
append [] ds x y z h k = subst (λ w. HadCalls ds w z) h k
append (c ∷ cs) ds x y z h k = (h.0, h.1, append cs ds h.0 y z h.2 k)

pub named_kept : (cs : List Call) (x y : Told) → HadCalls cs x y → y.named ≡ x.named
named_kept [] x y h = ap (λ t. t.named) h
named_kept (c ∷ cs) x y h = named_kept cs h.0 y h.2 ∙ h.1.named

never_fewer : (cs : List Call) (x y : Told) → HadCalls cs x y → x.faults ≤ y.faults
never_fewer [] x y h = le_of_eq (ap (λ t. t.faults) (sym h))
never_fewer (c ∷ cs) x y h = le_trans h.1.faults (never_fewer cs h.0 y h.2)

-- the same are the first of their names afterwards
firsts_kept : (before : List (List ℕ)) (bs : List Bool) (f : ℕ → List Call) (xs ys : List Told) → HadWhere bs f xs ys → firsts_after before ys ≡ firsts_after before xs
firsts_kept before [] f [] [] h = refl
firsts_kept before [] f [] (y ∷ ys) h = absurd h
firsts_kept before [] f (x ∷ xs) ys h = absurd h
firsts_kept before (b ∷ bs) f [] ys h = absurd h
firsts_kept before (b ∷ bs) f (x ∷ xs) [] h = absurd h
firsts_kept before (b ∷ bs) f (x ∷ xs) (y ∷ ys) h =
    let same = named_kept (if b then f 0 else []) x y h.0 in
    ap₂ ◌∷◌ (ap (λ n. not (list_any (λ name. bytes_eq name n) before)) same)
    (ap (λ n. firsts_after (n ∷ before) ys) same ∙ firsts_kept (x.named ∷ before) bs (λ k. f (suc k)) xs ys h.1)

pub same_firsts : (f : ℕ → List Call) (xs ys : List Told) → FirstsHad f xs ys → firsts ys ≡ firsts xs
same_firsts f xs ys h = firsts_kept [] (firsts xs) f xs ys h

both : (bs : List Bool) (f g : ℕ → List Call) (xs ys zs : List Told) → HadWhere bs f xs ys → HadWhere bs g ys zs → HadWhere bs (λ k. f k ++ g k) xs zs
both [] f g [] [] [] h k = tt
both [] f g [] [] (z ∷ zs) h k = absurd k
both [] f g [] (y ∷ ys) zs h k = absurd h
both [] f g (x ∷ xs) ys zs h k = absurd h
both (b ∷ bs) f g [] ys zs h k = absurd h
both (b ∷ bs) f g (x ∷ xs) [] zs h k = absurd h
both (b ∷ bs) f g (x ∷ xs) (y ∷ ys) [] h k = absurd k
both (true ∷ bs) f g (x ∷ xs) (y ∷ ys) (z ∷ zs) h k = (append (f 0) (g 0) x y z h.0 k.0, both bs (λ n. f (suc n)) (λ n. g (suc n)) xs ys zs h.1 k.1)
both (false ∷ bs) f g (x ∷ xs) (y ∷ ys) (z ∷ zs) h k = (k.0 ∙ h.0, both bs (λ n. f (suc n)) (λ n. g (suc n)) xs ys zs h.1 k.1)

-- calls of each after calls of each
pub and_then : (f g : ℕ → List Call) (xs ys zs : List Told) → FirstsHad f xs ys → FirstsHad g ys zs → FirstsHad (λ k. f k ++ g k) xs zs
and_then f g xs ys zs h k = both (firsts xs) f g xs ys zs h (subst (λ bs. HadWhere bs g ys zs) (same_firsts f xs ys h) k)

alike : (bs : List Bool) (f g : ℕ → List Call) (xs ys : List Told) → ((k : ℕ) → k < length xs → f k ≡ g k) → HadWhere bs f xs ys → HadWhere bs g xs ys
alike [] f g [] [] e h = tt
alike [] f g [] (y ∷ ys) e h = absurd h
alike [] f g (x ∷ xs) ys e h = absurd h
alike (b ∷ bs) f g [] ys e h = absurd h
alike (b ∷ bs) f g (x ∷ xs) [] e h = absurd h
alike (b ∷ bs) f g (x ∷ xs) (y ∷ ys) e h =
    (subst (λ cs. HadCalls (if b then cs else []) x y) (e 0 (omega arith)) h.0, alike bs (λ k. f (suc k)) (λ k. g (suc k)) xs ys (λ k lt. e (suc k) (omega (arith, lt))) h.1)

-- the same calls, written otherwise
pub as_well : (f g : ℕ → List Call) (xs ys : List Told) → ((k : ℕ) → k < length xs → f k ≡ g k) → FirstsHad f xs ys → FirstsHad g xs ys
as_well f g xs ys e h = alike (firsts xs) f g xs ys e h

quiet : (b : Bool) (x : Told) → HadCalls (if b then [] else []) x x
quiet true x = refl
quiet false x = refl

untouched : (before : List (List ℕ)) (xs : List Told) → HadWhere (firsts_after before xs) (λ k. []) xs xs
untouched before [] = tt
untouched before (x ∷ xs) = (quiet (not (list_any (λ name. bytes_eq name x.named) before)) x, untouched (x.named ∷ before) xs)

-- none was called
pub none_had : (xs : List Told) → FirstsHad (λ k. []) xs xs
none_had xs = untouched [] xs

abbrev got : Option Bool → Bool
got None = false
got (Some b) = b

marked : (b c : Bool) → Some b ≡ Some c → b ≡ c
marked b c e = ap got e

skipped : (calls : List Call) (before : List (List ℕ)) (xs : List Told) (at : ℕ) → slice_get (firsts_after before xs) at ≡ Some false
    → HadWhere (firsts_after before xs) (by_place at [] calls []) xs xs
skipped calls before [] at is = tt
skipped calls before (x ∷ xs) zero is =
    let no = marked (not (list_any (λ name. bytes_eq name x.named) before)) false is in
    (subst (λ b. HadCalls (if b then calls else []) x x) (sym no) refl, untouched (x.named ∷ before) xs)
skipped calls before (x ∷ xs) (suc at) is = (quiet (not (list_any (λ name. bytes_eq name x.named) before)) x, skipped calls (x.named ∷ before) xs at is)

-- one that isn't the first of its name wasn't called
pub skip_any : (calls : List Call) (xs : List Told) (at : ℕ) → slice_get (firsts xs) at ≡ Some false → FirstsHad (by_place at [] calls []) xs xs
skip_any calls xs at is = skipped calls [] xs at is

pub skip : (call : Call) (xs : List Told) (at : ℕ) → slice_get (firsts xs) at ≡ Some false → FirstsHad (by_place at [] (call ∷ []) []) xs xs
skip call xs at is = skip_any (call ∷ []) xs at is

module _ {A : Type 0} (tells : A → Told) where
  called : (calls : List Call) (before : List (List ℕ)) (xs : List A) (at : ℕ) (y d : A) → at < length xs → slice_get (firsts_after before (map tells xs)) at ≡ Some true
      → HadCalls calls (tells (get_or xs at d)) (tells y) → HadWhere (firsts_after before (map tells xs)) (by_place at [] calls []) (map tells xs) (map tells (slice_set xs at y))
  called calls before [] at y d lt is had = tt
  called calls before (x ∷ xs) zero y d lt is had =
      let yes = marked (not (list_any (λ name. bytes_eq name (tells x).named) before)) true is in
      (subst (λ b. HadCalls (if b then calls else []) (tells x) (tells y)) (sym yes) had, untouched ((tells x).named ∷ before) (map tells xs))
  called calls before (x ∷ xs) (suc at) y d lt is had =
      (quiet (not (list_any (λ name. bytes_eq name (tells x).named) before)) (tells x), called calls ((tells x).named ∷ before) xs at y d (omega (arith, lt)) is had)

  -- the first of its name had these calls, and no other had any
  pub one_had : (calls : List Call) (xs : List A) (at : ℕ) (y d : A) → at < length xs → slice_get (firsts (map tells xs)) at ≡ Some true
      → HadCalls calls (tells (get_or xs at d)) (tells y) → FirstsHad (by_place at [] calls []) (map tells xs) (map tells (slice_set xs at y))
  one_had calls xs at y d lt is had = called calls [] xs at y d lt is had

  -- the first of its name was called, and no other
  pub one_called : (call : Call) (xs : List A) (at : ℕ) (y d : A) → at < length xs → slice_get (firsts (map tells xs)) at ≡ Some true
      → WasCalled call (tells (get_or xs at d)) (tells y) → FirstsHad (by_place at [] (call ∷ []) []) (map tells xs) (map tells (slice_set xs at y))
  one_called call xs at y d lt is was = called (call ∷ []) [] xs at y d lt is (tells y, was, refl)

  -- its count rose
  pub one_risen : (xs : List A) (at : ℕ) (y d : A)
      → at < length xs → HasRisen (tells (get_or xs at d)).faults (tells y).faults → HasRisenAt at (map tells xs) (map tells (slice_set xs at y))
  one_risen [] at y d lt rose = absurd (omega (arith, lt))
  one_risen (x ∷ xs) zero y d lt rose = rose
  one_risen (x ∷ xs) (suc at) y d lt rose = one_risen xs at y d (omega (arith, lt)) rose

  turned : (a b c : Bool) → (a || (b || c)) ≡ ((b || a) || c)
  turned true true c = refl
  turned true false c = refl
  turned false true c = refl
  turned false false c = refl

  mark_is : (before : List (List ℕ)) (xs : List A) (at : ℕ) (d : A) → at < length xs
      → slice_get (firsts_after before (map tells xs)) at
      ≡ Some (not (list_any (λ p. bytes_eq (tells p).named (tells (get_or xs at d)).named) (take at xs) || list_any (λ name. bytes_eq name (tells (get_or xs at d)).named) before))
  mark_is before [] at d lt = absurd (omega (arith, lt))
  mark_is before (x ∷ xs) zero d lt = refl
  mark_is before (x ∷ xs) (suc at) d lt =
      mark_is ((tells x).named ∷ before) xs at d (omega (arith, lt))
      ∙ ap (λ b. Some (not b)) (turned (list_any (λ p. bytes_eq (tells p).named (tells (get_or xs at d)).named) (take at xs)) (bytes_eq (tells x).named (tells (get_or xs at d)).named) (list_any (λ name. bytes_eq name (tells (get_or xs at d)).named) before))

  or_false : (a : Bool) → (a || false) ≡ a
  or_false true = refl
  or_false false = refl

  -- one is the first of its name where none before it has the name
  pub first_is : (xs : List A) (at : ℕ) (d : A) → at < length xs
      → slice_get (firsts (map tells xs)) at ≡ Some (not (list_any (λ p. bytes_eq (tells p).named (tells (get_or xs at d)).named) (take at xs)))
  first_is xs at d lt = mark_is [] xs at d lt ∙ ap (λ b. Some (not b)) (or_false (list_any (λ p. bytes_eq (tells p).named (tells (get_or xs at d)).named) (take at xs)))

  -- what the test found, of the list itself
  pub mark_of : (xs ys : List A) (at : ℕ) (b c : Bool) → ys ≡ xs → slice_get (firsts (map tells ys)) at ≡ Some b → b ≡ c → slice_get (firsts (map tells xs)) at ≡ Some c
  mark_of xs ys at b c same is e = subst (λ zs. slice_get (firsts (map tells zs)) at ≡ Some c) same (is ∙ ap Some e)

  -- who stands at a place has its name
  pub named_at : (xs : List A) (at : ℕ) (d : A) (name : List ℕ) → at < length xs → d ≡ get_or xs at d → name ≡ (tells d).named → IsSomeAnd (slice_get (map tells xs) at) (λ x. x.named ≡ name)
  named_at [] at d name lt is same = absurd (omega (arith, lt))
  named_at (x ∷ xs) zero d name lt is same = sym (same ∙ ap (λ p. (tells p).named) is)
  named_at (x ∷ xs) (suc at) d name lt is same = named_at xs at d name (omega (arith, lt)) is same

  counted : (before : List (List ℕ)) (xs : List A) (at : ℕ) (b : Bool) → slice_get (firsts_after before (map tells xs)) at ≡ Some b → at < length xs
  counted before [] at b is = cc
  counted before (x ∷ xs) zero b is = omega arith
  counted before (x ∷ xs) (suc at) b is = let lt = counted ((tells x).named ∷ before) xs at b is in omega (arith, lt)

  -- a place that is marked is one of the list
  pub is_within : (xs : List A) (at : ℕ) (b : Bool) → slice_get (firsts (map tells xs)) at ≡ Some b → at < length xs
  is_within xs at b is = counted [] xs at b is

-- what stands at a place before and after
later : (k : ℕ) (bs : List Bool) (f : ℕ → List Call) (xs ys : List Told) → HadWhere bs f xs ys
    → IfSome (slice_get xs k) (λ x. IsSomeAnd (slice_get ys k) (λ y. (y.named ≡ x.named) × (x.faults ≤ y.faults)))
later k [] f [] [] h = tt
later k [] f [] (y ∷ ys) h = absurd h
later k [] f (x ∷ xs) ys h = absurd h
later k (b ∷ bs) f [] ys h = absurd h
later k (b ∷ bs) f (x ∷ xs) [] h = absurd h
later zero (b ∷ bs) f (x ∷ xs) (y ∷ ys) h = (named_kept (if b then f 0 else []) x y h.0, never_fewer (if b then f 0 else []) x y h.0)
later (suc k) (b ∷ bs) f (x ∷ xs) (y ∷ ys) h = later k bs (λ n. f (suc n)) xs ys h.1

earlier : (k : ℕ) (bs : List Bool) (f : ℕ → List Call) (xs ys : List Told) → HadWhere bs f xs ys
    → IfSome (slice_get ys k) (λ y. IsSomeAnd (slice_get xs k) (λ x. (y.named ≡ x.named) × (x.faults ≤ y.faults)))
earlier k [] f [] [] h = tt
earlier k [] f [] (y ∷ ys) h = absurd h
earlier k [] f (x ∷ xs) ys h = absurd h
earlier k (b ∷ bs) f [] ys h = absurd h
earlier k (b ∷ bs) f (x ∷ xs) [] h = absurd h
earlier zero (b ∷ bs) f (x ∷ xs) (y ∷ ys) h = (named_kept (if b then f 0 else []) x y h.0, never_fewer (if b then f 0 else []) x y h.0)
earlier (suc k) (b ∷ bs) f (x ∷ xs) (y ∷ ys) h = earlier k bs (λ n. f (suc n)) xs ys h.1

risen_between : (a b c d : ℕ) → a ≤ b → HasRisen b c → c ≤ d → HasRisen a d
risen_between a b c d ab (inl lt) cd = inl (omega (arith, ab, lt, cd))
risen_between a b c d ab (inr e) cd = last (eq-or-lt_of_le (omega (arith, ab, e.1, cd)))
  where
    last : (a ≡ d) ⊎ (a < d) → HasRisen a d
    last (inl same) = inr (omega (arith, same, ab, e.0, e.1, cd), sym same)
    last (inr lt) = inl lt

-- a count that rose has risen for who looks from earlier to later
pub rose_between : (at : ℕ) (f g : ℕ → List Call) (xs ys zs ws : List Told) → FirstsHad f xs ys → HasRisenAt at ys zs → FirstsHad g zs ws → HasRisenAt at xs ws
rose_between at f g xs ys zs ws h rose k = by (slice_get xs at) (slice_get ys at) (slice_get zs at) (slice_get ws at) (earlier at (firsts xs) f xs ys h) rose (later at (firsts zs) g zs ws k)
  where
    by : (ox oy oz ow : Option Told) → IfSome oy (λ y. IsSomeAnd ox (λ x. (y.named ≡ x.named) × (x.faults ≤ y.faults))) → IsSomeAnd oy (λ y. IsSomeAnd oz (λ z. HasRisen y.faults z.faults))
        → IfSome oz (λ z. IsSomeAnd ow (λ w. (w.named ≡ z.named) × (z.faults ≤ w.faults))) → IsSomeAnd ox (λ x. IsSomeAnd ow (λ w. HasRisen x.faults w.faults))
    by ox None oz ow a b c = absurd b
    by ox (Some y) None ow a b c = absurd b
    by None (Some y) (Some z) ow a b c = absurd a
    by (Some x) (Some y) (Some z) None a b c = absurd c
    by (Some x) (Some y) (Some z) (Some w) a b c = risen_between x.faults y.faults z.faults w.faults a.1 b c.1

-- who has a name at a place afterwards had it before
pub named_before : (at : ℕ) (name : List ℕ) (f : ℕ → List Call) (xs ys : List Told) → FirstsHad f xs ys
    → IsSomeAnd (slice_get ys at) (λ y. y.named ≡ name) → IsSomeAnd (slice_get xs at) (λ x. x.named ≡ name)
named_before at name f xs ys h is = by (slice_get xs at) (slice_get ys at) (earlier at (firsts xs) f xs ys h) is
  where
    by : (ox oy : Option Told) → IfSome oy (λ y. IsSomeAnd ox (λ x. (y.named ≡ x.named) × (x.faults ≤ y.faults))) → IsSomeAnd oy (λ y. y.named ≡ name) → IsSomeAnd ox (λ x. x.named ≡ name)
    by ox None a b = absurd b
    by None (Some y) a b = absurd a
    by (Some x) (Some y) a b = sym a.0 ∙ b

-- as many stand there afterwards
pub same_length : (f : ℕ → List Call) (xs ys : List Told) → FirstsHad f xs ys → length ys ≡ length xs
same_length f xs ys h = counted (firsts xs) f xs ys h
  where
    counted : (bs : List Bool) (f : ℕ → List Call) (xs ys : List Told) → HadWhere bs f xs ys → length ys ≡ length xs
    counted [] f [] [] h = refl
    counted [] f [] (y ∷ ys) h = absurd h
    counted [] f (x ∷ xs) ys h = absurd h
    counted (b ∷ bs) f [] ys h = absurd h
    counted (b ∷ bs) f (x ∷ xs) [] h = absurd h
    counted (b ∷ bs) f (x ∷ xs) (y ∷ ys) h = ap suc (counted bs (λ k. f (suc k)) xs ys h.1)

pub same_count : {A : Type 0} (tells : A → Told) (f : ℕ → List Call) (xs ys : List A) → FirstsHad f (map tells xs) (map tells ys) → length ys ≡ length xs
same_count tells f xs ys h = sym (length-map ys tells) ∙ same_length f (map tells xs) (map tells ys) h ∙ length-map xs tells
