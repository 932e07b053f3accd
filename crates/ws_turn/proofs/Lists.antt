-- On beginnings of one list, on entries of one number, and on the numbers that entries give.
use Rattle.std.proofs.Common.{Bool, ◌≡◌, ◌≢◌, ◌≤◌, ℕ, true, false, eqb, List, [], ◌∷◌, ◌++◌, length, nat_eq, nat_lt, Option, Some, None, is_some, sym, refl, ap, ◌∙◌, subst, arith, eq-eqb, ne_eqb, ◌||◌, true≢false, append-nil, append_assoc, if◌then◌else◌, length-append, max}
use mathlib.Core.Logic.{dite}
use native.Mathlib.Decide.{ℕ_discrete}
use Rattle.std.specs.List.{IsDistinct, AllByRecursion}
use Rattle.std.proofs.lemmas.List.Elements.{filter-append}
use Rattle.std.proofs.lemmas.List.Folds.{list_any-append}
use Rattle.ws_turn.specs.Lists.{StartsWith, longer, of, has, put_before, numbers, given, HasNoneOf}

pub some_same : {A : Type 0} (x y : A) → Some x ≡ Some y → x ≡ y
some_same x y e = let f : Option _ → _ = elim [ Some z ↦ z | None ↦ x ] in ap f e

pub none_some : {A : Type 0} (x : A) → None ≡ Some x → ⊥
none_some x e = let e : None ≡ Some x = e in cc

pub some_of : {A : Type 0} (o : Option A) → is_some o ≡ true → (x : A) × (o ≡ Some x)
some_of None e = absurd (true≢false (sym e))
some_of (Some x) e = (x, refl)

pub by_bool : {P : Type 0} (b : Bool) → (b ≡ true → P) → (b ≡ false → P) → P
by_bool true f g = f refl
by_bool false f g = g refl

pub or_false : (b : Bool) → (b || false) ≡ b
or_false true = refl
or_false false = refl

pub or_true : (b : Bool) → (b || true) ≡ true
or_true true = refl
or_true false = refl

pub or_left : (a b : Bool) → (a || b) ≡ false → a ≡ false
or_left true b e = e
or_left false b e = refl

pub or_right : (a b : Bool) → (a || b) ≡ true → b ≡ false → a ≡ true
or_right true b e f = refl
or_right false b e f = absurd (true≢false (sym e ∙ f))

pub eqb_same : (m n : ℕ) → eqb m n ≡ true → m ≡ n
eqb_same m n e = dite (ℕ_discrete m n) (λ same. same) (λ other. absurd (true≢false (sym e ∙ ne_eqb m n other)))

pub eqb_other : (m n : ℕ) → eqb m n ≡ false → m ≢ n
eqb_other m n e same = true≢false (sym (eq-eqb m n same) ∙ e)

-- ---- beginnings of a list

pub starts_here : {E : Type 0} (xs : List E) → StartsWith xs xs
starts_here xs = ([], sym (append-nil xs))

pub starts_further : {E : Type 0} (xs more seen : List E) → StartsWith xs seen → StartsWith (xs ++ more) seen
starts_further xs more seen s = (s.0 ++ more, ap (λ l. l ++ more) s.1 ∙ append_assoc seen s.0 more)

no_less : {E : Type 0} (xs ys : List E) → length (xs ++ ys) ≡ length xs → ys ≡ []
no_less xs [] e = refl
no_less xs (y ∷ ys) e = absurd (omega (arith, e, length-append xs (y ∷ ys)))

pub starts_both : {E : Type 0} (xs ys : List E) → StartsWith xs ys → StartsWith ys xs → ys ≡ xs
starts_both xs ys s t =
    let len : length (ys ++ s.0) ≡ length ys = let a = ap length s.1 in let b = ap length t.1 in let c = length-append ys s.0 in let d = length-append xs t.0 in omega (arith, a, b, c, d) in
    sym (s.1 ∙ (ap (λ l. ys ++ l) (no_less ys s.0 len) ∙ append-nil ys))

-- of two beginnings of one list the longer begins with the other
pub starts_short : {E : Type 0} (h xs ys : List E) → StartsWith h xs → StartsWith h ys → length xs ≤ length ys → StartsWith ys xs
starts_short h [] ys s t le = (ys, refl)
starts_short h (x ∷ xs) [] s t le = absurd (omega (arith, le))
starts_short h (x ∷ xs) (y ∷ ys) s t le =
    let same = sym s.1 ∙ t.1 in
    let heads : x ≡ y = first_same x y (xs ++ s.0) (ys ++ t.0) same in
    let tails : xs ++ s.0 ≡ ys ++ t.0 = rest_same x y (xs ++ s.0) (ys ++ t.0) same in
    let deeper = starts_short (xs ++ s.0) xs ys (s.0, refl) (t.0, tails) (omega (arith, le)) in
    (deeper.0, ap (λ z. z ∷ ys) (sym heads) ∙ ap (λ l. x ∷ l) deeper.1)
  where
    first_same : {E : Type 0} (x y : E) (xs ys : List E) → x ∷ xs ≡ y ∷ ys → x ≡ y
    first_same x y xs ys e = let e : x ∷ xs ≡ y ∷ ys = e in cc

    rest_same : {E : Type 0} (x y : E) (xs ys : List E) → x ∷ xs ≡ y ∷ ys → xs ≡ ys
    rest_same x y xs ys e = let e : x ∷ xs ≡ y ∷ ys = e in cc

pub record IsLonger {E : Type 0} (h xs ys zs : List E) : Type 0 where
  pub within : StartsWith h zs
  pub left : StartsWith zs xs
  pub right : StartsWith zs ys

pub longer_is : {E : Type 0} (h xs ys : List E) → StartsWith h xs → StartsWith h ys → IsLonger h xs ys (longer xs ys)
longer_is h xs ys s t = by_bool (nat_lt (length xs) (length ys))
    (λ less. subst (IsLonger h xs ys) (sym (ap (λ b. if b then ys else xs) less)) (record { within = t; left = starts_short h xs ys s t (grows less); right = starts_here ys }))
    (λ more. subst (IsLonger h xs ys) (sym (ap (λ b. if b then ys else xs) more)) (record { within = s; left = starts_here xs; right = starts_short h ys xs t s (shrinks more) }))
  where
    grows : nat_lt (length xs) (length ys) ≡ true → length xs ≤ length ys
    grows e = grind (arith, e)

    shrinks : nat_lt (length xs) (length ys) ≡ false → length ys ≤ length xs
    shrinks e = grind (arith, e)

pub longer_nil : {E : Type 0} (xs : List E) → longer xs [] ≡ xs
longer_nil xs = by_bool (nat_lt (length xs) 0)
    (λ e. absurd (let e : nat_lt (length xs) 0 ≡ true = e in grind arith))
    (λ e. ap (λ b. if b then [] else xs) e)

pub length-longer : {E : Type 0} (xs ys : List E) → length (longer xs ys) ≡ max (length xs) (length ys)
length-longer xs ys = by_bool (nat_lt (length xs) (length ys))
    (λ e. ap (λ b. length (if b then ys else xs)) e ∙ (let e : nat_lt (length xs) (length ys) ≡ true = e in grind arith))
    (λ e. ap (λ b. length (if b then ys else xs)) e ∙ (let e : nat_lt (length xs) (length ys) ≡ false = e in grind arith))

-- ---- entries of one number

module _ {E : Type 0} (by : E → ℕ) where
  pub of_append : (n : ℕ) (xs ys : List E) → of by n (xs ++ ys) ≡ of by n xs ++ of by n ys
  of_append n xs ys = filter-append (λ e. nat_eq (by e) n) xs ys

  left_none : (xs ys : List E) → xs ++ ys ≡ [] → xs ≡ []
  left_none [] ys e = refl
  left_none (x ∷ xs) ys e = let len = ap length e in absurd (omega (arith, len))

  -- where a list has no entry of a number, no beginning of it has
  pub none_before : (n : ℕ) (h xs : List E) → StartsWith h xs → of by n h ≡ [] → of by n xs ≡ []
  none_before n h xs s none = left_none (of by n xs) (of by n s.0) (sym (of_append n xs s.0) ∙ (ap (of by n) (sym s.1) ∙ none))

  pub none_within : (ns : List ℕ) (h xs : List E) → StartsWith h xs → ((n : ℕ) → has n ns ≡ true → of by n h ≡ []) → HasNoneOf by ns xs
  none_within ns h xs s none n e = none_before n h xs s (none n e)

  same_longer : (xs ys zs : List E) → xs ≡ (xs ++ ys) ++ zs → ys ≡ []
  same_longer xs [] zs e = refl
  same_longer xs (y ∷ ys) zs e = let len = ap length e in absurd (omega (arith, len, length-append (xs ++ y ∷ ys) zs, length-append xs (y ∷ ys)))

  -- what lies between two beginnings with the same entries of a number has the same
  pub between : (n : ℕ) (h xs ys mine : List E) → StartsWith h ys → StartsWith ys xs → of by n h ≡ mine → of by n xs ≡ mine → of by n ys ≡ mine
  between n h xs ys mine s t whole part =
      let a : of by n ys ≡ of by n xs ++ of by n t.0 = ap (of by n) t.1 ∙ of_append n xs t.0 in
      let b : of by n h ≡ of by n ys ++ of by n s.0 = ap (of by n) s.1 ∙ of_append n ys s.0 in
      let c : of by n xs ≡ (of by n xs ++ of by n t.0) ++ of by n s.0 = part ∙ (sym whole ∙ (b ∙ ap (λ l. l ++ of by n s.0) a)) in
      a ∙ (ap (λ l. of by n xs ++ l) (same_longer (of by n xs) (of by n t.0) (of by n s.0) c) ∙ (append-nil (of by n xs) ∙ part))

-- ---- the numbers that entries give

pub put_one : (o : Option ℕ) (m : ℕ) → has m (put_before o []) ≡ true → o ≡ Some m
put_one None m e = absurd (true≢false (sym e))
put_one (Some n) m e = by_bool (eqb m n) (λ z. ap Some (sym (eqb_same m n z))) (λ z. absurd (true≢false (sym e ∙ ap (λ b. b || false) z)))

pub has_append : (n : ℕ) (xs ys : List ℕ) → has n (xs ++ ys) ≡ (has n xs || has n ys)
has_append n xs ys = list_any-append (eqb n) xs ys

module _ {E : Type 0} (gives : E → Option ℕ) where
  put_append : (o : Option ℕ) (xs ys : List ℕ) → put_before o xs ++ ys ≡ put_before o (xs ++ ys)
  put_append None xs ys = refl
  put_append (Some n) xs ys = refl

  pub numbers_append : (xs ys : List E) → numbers gives (xs ++ ys) ≡ numbers gives xs ++ numbers gives ys
  numbers_append [] ys = refl
  numbers_append (x ∷ xs) ys = ap (put_before (gives x)) (numbers_append xs ys) ∙ sym (put_append (gives x) (numbers gives xs) (numbers gives ys))

  pub given_append : (n : ℕ) (xs ys : List E) → given gives n (xs ++ ys) ≡ (given gives n xs || has n (numbers gives ys))
  given_append n xs ys = ap (has n) (numbers_append xs ys) ∙ has_append n (numbers gives xs) (numbers gives ys)

all_append : (x : ℕ) (xs ys : List ℕ) → AllByRecursion (λ y. eqb x y ≡ false) xs → has x ys ≡ false → AllByRecursion (λ y. eqb x y ≡ false) (xs ++ ys)
all_append x [] [] a b = tt
all_append x [] (y ∷ ys) a b = (or_left (eqb x y) (has x ys) b, all_append x [] ys tt (or_rest (eqb x y) (has x ys) b))
  where
    or_rest : (a b : Bool) → (a || b) ≡ false → b ≡ false
    or_rest true b e = absurd (true≢false e)
    or_rest false b e = e
all_append x (z ∷ xs) ys a b = (a.0, all_append x xs ys a.1 b)

pub distinct_append : (xs ys : List ℕ) → IsDistinct eqb xs → IsDistinct eqb ys → ((n : ℕ) → has n xs ≡ true → has n ys ≡ false) → IsDistinct eqb (xs ++ ys)
unfolding IsDistinct
distinct_append [] ys a b apart = b
distinct_append (x ∷ xs) ys a b apart = (
  all_append x xs ys a.0 (apart x (ap (λ t. t || has x xs) (eq-eqb x x refl))),
  distinct_append xs ys a.1 b (λ n e. apart n (ap (λ t. eqb n x || t) e ∙ or_true (eqb n x))),
)
