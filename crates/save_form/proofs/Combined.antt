-- Forms that are made of other forms.
use Rattle.std.proofs.Common.{◌≡◌, ℕ, zero, suc, ◌+◌, ◌^◌, ◌<◌, Bool, true, false, cond, List, [], ◌++◌, length, Option, Some, None, Ok, Err, refl, sym, ap, subst, add-zero, lit<, append_assoc, arith, length-append}
use Rattle.std.specs.Prelude.{IfSome, IsSomeAnd, is_some}
use Rattle.std.specs.Option.{option_map}
use Rattle.ws_wire.specs.Fields.{Input, Takes}
use Rattle.save_form.specs.declared.stop.Stop.TheVariants.{Bad}
use Rattle.save_form.specs.Forms.{Form, ◌>>=◌, number, nothing, pair, checked, seen_as, made_at, made, spell_some, as_case, one_of, flag_of, flag_number, flag, where_on, optional}
use Rattle.save_form.specs.Laws.{Lawful}
use Rattle.save_form.specs.Lists.{is_above, rising}
use Rattle.save_form.proofs.Fields.{number_lawful}
use Rattle.save_form.proofs.Steps.{ok_is, bind_ok, test_ok, Takes-then}

-- the same values, told otherwise
pub lawful_as : {A : Type 0} (f : Form A) (fits others : A → Type 0) → ((a : A) → fits a → others a) → ((a : A) → others a → fits a) → Lawful fits f → Lawful others f
lawful_as f fits others there back l = record {
  takes = λ i j a e. let p = l.takes i j a e in (p.0, there a p.1);
  again = λ at a rest fit. l.again at a rest (back a fit);
}

-- ---- one value and another

pair_takes : {A B : Type 0} (f : Form A) (g : A → Form B) (fits : A → Type 0) (fits_too : A → B → Type 0) → Lawful fits f → ((a : A) → Lawful (fits_too a) (g a))
    → (i j : Input) (a : A × B) → (pair f g).read i ≡ Ok (a, j) → Takes i ((pair f g).spell a) j × (fits a.0 × fits_too a.0 a.1)
pair_takes {A = A} {B = B} f g fits fits_too l m i j a e =
    let p = bind_ok (f.read i) (λ x. (g x.0).read x.1 >>= λ y. Ok ((x.0, y.0), y.1)) (a, j) e in
    let q = bind_ok ((g p.0.0).read p.0.1) (λ y. Ok ((p.0.0, y.0), y.1)) (a, j) p.2 in
    let one = l.takes i p.0.1 p.0.0 p.1 in
    let two = (m p.0.0).takes p.0.1 q.0.1 q.0.0 q.1 in
    let both : (A × B) × Input = ((p.0.0, q.0.0), q.0.1) in
    subst (λ (x : (A × B) × Input). Takes i ((pair f g).spell x.0) x.1 × (fits x.0.0 × fits_too x.0.0 x.0.1)) (ok_is both (a, j) q.2)
    (Takes-then i p.0.1 q.0.1 (f.spell p.0.0) ((g p.0.0).spell q.0.0) one.0 two.0, (one.1, two.1))

pair_again : {A B : Type 0} (f : Form A) (g : A → Form B) (fits : A → Type 0) (fits_too : A → B → Type 0) → Lawful fits f → ((a : A) → Lawful (fits_too a) (g a))
    → (at : ℕ) (a : A × B) (rest : List ℕ) → fits a.0 × fits_too a.0 a.1 → (pair f g).read (record { at = at; left = (pair f g).spell a ++ rest }) ≡ Ok (a, record { at = at + length ((pair f g).spell a); left = rest })
pair_again f g fits fits_too l m at a rest fit =
    let x = f.spell a.0 in
    let y = (g a.0).spell a.1 in
    let one = l.again at a.0 (y ++ rest) fit.0 in
    let two = (m a.0).again (at + length x) a.1 rest fit.1 in
    let len : at + length (x ++ y) ≡ at + length x + length y = omega (arith, length-append x y) in
    rw (append_assoc x y rest, one, two, len) refl

pub pair_lawful : {A B : Type 0} (f : Form A) (g : A → Form B) (fits : A → Type 0) (fits_too : A → B → Type 0) → Lawful fits f → ((a : A) → Lawful (fits_too a) (g a)) → Lawful (λ (x : A × B). fits x.0 × fits_too x.0 x.1) (pair f g)
pair_lawful f g fits fits_too l m = record { takes = pair_takes f g fits fits_too l m; again = pair_again f g fits fits_too l m }

-- ---- no bytes, tests, and other values

pub nothing_lawful : {A : Type 0} (a : A) → Lawful (λ (b : A). a ≡ b) (nothing a)
nothing_lawful {A = A} a = record {
  takes = λ i j b e. let p : (a, i) ≡ (b, j) = ok_is (a, i) (b, j) e in
      subst (λ (x : A × Input). Takes i [] x.1 × (a ≡ x.0)) p (record { bytes = refl; at = omega arith }, refl);
  again = λ at b rest e. rw (e, add-zero) refl;
}

pub checked_lawful : {A : Type 0} (test : A → Bool) (f : Form A) (fits : A → Type 0) → Lawful fits f → Lawful (λ (a : A). fits a × (test a ≡ true)) (checked test f)
checked_lawful {A = A} test f fits l = record {
  takes = λ i j a e.
      let p = bind_ok (f.read i) (λ x. cond (test x.0) (Ok x) (Err (Bad i.at))) (a, j) e in
      let q = test_ok (test p.0.0) (Bad i.at) p.0 (a, j) p.2 in
      let one = l.takes i p.0.1 p.0.0 p.1 in
      subst (λ (x : A × Input). Takes i (f.spell x.0) x.1 × (fits x.0 × (test x.0 ≡ true))) q.1 (one.0, (one.1, q.0));
  again = λ at a rest fit. let one = l.again at a rest fit.0 in let passed = fit.1 in rw (one, passed) refl;
}

-- other values, where those that fit are given back
pub seen_where : {A B : Type 0} (to : A → B) (from : B → A) (f : Form A) (fits : A → Type 0) → ((a : A) → fits a → from (to a) ≡ a) → ((b : B) → to (from b) ≡ b) → Lawful fits f → Lawful (λ (b : B). fits (from b)) (seen_as to from f)
seen_where {A = A} {B = B} to from f fits there back l = record {
  takes = λ i j b e.
      let p = bind_ok (f.read i) (λ x. Ok (to x.0, x.1)) (b, j) e in
      let one = l.takes i p.0.1 p.0.0 p.1 in
      let same = there p.0.0 one.1 in
      subst (λ (x : B × Input). Takes i (f.spell (from x.0)) x.1 × fits (from x.0)) (ok_is (to p.0.0, p.0.1) (b, j) p.2) (subst (λ (a : A). Takes i (f.spell a) p.0.1 × fits a) (sym same) one);
  again = λ at b rest fit. let one = l.again at (from b) rest fit in let same = back b in rw (one, same) refl;
}

pub seen_lawful : {A B : Type 0} (to : A → B) (from : B → A) (f : Form A) (fits : A → Type 0) → ((a : A) → from (to a) ≡ a) → ((b : B) → to (from b) ≡ b) → Lawful fits f → Lawful (λ (b : B). fits (from b)) (seen_as to from f)
seen_lawful to from f fits there back l = seen_where to from f fits (λ a _. there a) back l

made_ok : {B : Type 0} (at : ℕ) (o : Option B) (k : Input) (b : B) (j : Input) → made_at at o k ≡ Ok (b, j) → (o ≡ Some b) × (k ≡ j)
made_ok at None k b j e = absurd cc
made_ok {B = B} at (Some c) k b j e = let p : (c, k) ≡ (b, j) = ok_is (c, k) (b, j) e in (ap (λ (x : B × Input). Some x.0) p, ap (λ (x : B × Input). x.1) p)

pub made_lawful : {A B : Type 0} (to : A → Option B) (from : B → A) (f : Form A) (fits : A → Type 0) → ((a : A) (b : B) → to a ≡ Some b → from b ≡ a) → Lawful fits f → Lawful (λ (b : B). fits (from b) × (to (from b) ≡ Some b)) (made to from f)
made_lawful {A = A} {B = B} to from f fits there l = record {
  takes = λ i j b e.
      let p = bind_ok (f.read i) (λ x. made_at i.at (to x.0) x.1) (b, j) e in
      let one = l.takes i p.0.1 p.0.0 p.1 in
      let q = made_ok i.at (to p.0.0) p.0.1 b j p.2 in
      let same = there p.0.0 b q.0 in
      subst (λ (k : Input). Takes i (f.spell (from b)) k × (fits (from b) × (to (from b) ≡ Some b))) q.1
      (subst (λ (a : A). Takes i (f.spell a) p.0.1 × (fits a × (to a ≡ Some b))) (sym same) (one.0, (one.1, q.0)));
  again = λ at b rest fit. let one = l.again at (from b) rest fit.0 in let there = fit.1 in rw (one, there) refl;
}

-- ---- one of several

case_again : {A B : Type 0} (to : A → B) (from : B → Option A) (f : Form A) (fits : A → Type 0) → ((b : B) (a : A) → from b ≡ Some a → to a ≡ b) → Lawful fits f → (at : ℕ) (b : B) (rest : List ℕ) (o : Option A) → from b ≡ o → IsSomeAnd o fits
    → (as_case to from f).read (record { at = at; left = spell_some f o ++ rest }) ≡ Ok (b, record { at = at + length (spell_some f o); left = rest })
case_again to from f fits back l at b rest None e fit = absurd fit
case_again to from f fits back l at b rest (Some a) e fit = let one = l.again at a rest fit in let same = back b a e in rw (one, same) refl

pub case_lawful : {A B : Type 0} (to : A → B) (from : B → Option A) (f : Form A) (fits : A → Type 0) → ((a : A) → from (to a) ≡ Some a) → ((b : B) (a : A) → from b ≡ Some a → to a ≡ b) → Lawful fits f
    → Lawful (λ (b : B). IsSomeAnd (from b) fits) (as_case to from f)
case_lawful {A = A} {B = B} to from f fits there back l = record {
  takes = λ i j b e.
      let p = bind_ok (f.read i) (λ x. Ok (to x.0, x.1)) (b, j) e in
      let one = l.takes i p.0.1 p.0.0 p.1 in
      let same = there p.0.0 in
      subst (λ (x : B × Input). Takes i (spell_some f (from x.0)) x.1 × IsSomeAnd (from x.0) fits) (ok_is (to p.0.0, p.0.1) (b, j) p.2)
      (subst (λ (o : Option A). Takes i (spell_some f o) p.0.1 × IsSomeAnd o fits) (sym same) one);
  again = λ at b rest fit. case_again to from f fits back l at b rest (from b) refl fit;
}

pub one_of_lawful : {S A : Type 0} (tag : Form S) (sort : A → S) (forms : S → Form A) (sorts : S → Type 0) (fits : A → Type 0) → Lawful sorts tag → ((s : S) → Lawful (λ (a : A). fits a × (sort a ≡ s)) (forms s))
    → Lawful (λ (a : A). sorts (sort a) × fits a) (one_of tag sort forms)
one_of_lawful {S = S} {A = A} tag sort forms sorts fits l m =
    lawful_as (one_of tag sort forms) (λ (a : A). sorts (sort a) × (fits a × (sort a ≡ sort a))) (λ (a : A). sorts (sort a) × fits a) (λ a p. (p.0, p.1.0)) (λ a p. (p.0, (p.1, refl)))
    (seen_where (λ (x : S × A). x.1) (λ (a : A). (sort a, a)) (pair tag forms) (λ (x : S × A). sorts x.0 × (fits x.1 × (sort x.1 ≡ x.0)))
    (λ x fit. ap (λ (s : S). (s, x.1)) fit.1.1) (λ a. refl) (pair_lawful tag forms sorts (λ s a. fits a × (sort a ≡ s)) l m))

-- ---- flags, and optional values

flag_same : (a b : Bool) (n : ℕ) → flag_number a ≡ n → Some a ≡ Some b → flag_number b ≡ n
flag_same a b n h e = let p : a ≡ b = cc in subst (λ (c : Bool). flag_number c ≡ n) p h

flag_there : (n : ℕ) (b : Bool) → flag_of n ≡ Some b → flag_number b ≡ n
flag_there zero b e = flag_same false b 0 refl e
flag_there (suc zero) b e = flag_same true b 1 refl e
flag_there (suc (suc n)) b e = absurd cc

flag_fits : (b : Bool) → (flag_number b < 256 ^ 1) × (flag_of (flag_number b) ≡ Some b)
flag_fits true = (lit< tt, refl)
flag_fits false = (lit< tt, refl)

pub flag_lawful : Lawful (λ (b : Bool). Unit {0}) flag
flag_lawful = lawful_as flag _ _ (λ b _. tt) (λ b _. flag_fits b) (made_lawful flag_of flag_number (number 1) (λ n. n < 256 ^ 1) flag_there (number_lawful 1))

off_there : {A : Type 0} (fits : A → Type 0) (o : Option A) → None ≡ o → IfSome o fits × (is_some o ≡ false)
off_there fits None e = (tt, refl)
off_there fits (Some a) e = absurd cc

off_back : {A : Type 0} (fits : A → Type 0) (o : Option A) → IfSome o fits × (is_some o ≡ false) → None ≡ o
off_back fits None p = refl
off_back fits (Some a) p = let e : true ≡ false = p.1 in absurd cc

on_there : {A : Type 0} (fits : A → Type 0) (o : Option A) → IsSomeAnd o fits → IfSome o fits × (is_some o ≡ true)
on_there fits None p = absurd p
on_there fits (Some a) p = (p, refl)

on_back : {A : Type 0} (fits : A → Type 0) (o : Option A) → IfSome o fits × (is_some o ≡ true) → IsSomeAnd o fits
on_back fits None p = let e : false ≡ true = p.1 in absurd cc
on_back fits (Some a) p = p.0

where_on_lawful : {A : Type 0} (f : Form A) (fits : A → Type 0) → Lawful fits f → (b : Bool) → Lawful (λ (o : Option A). IfSome o fits × (is_some o ≡ b)) (where_on f b)
where_on_lawful {A = A} f fits l false = lawful_as _ (λ (o : Option A). None ≡ o) _ (off_there fits) (off_back fits) (nothing_lawful None)
where_on_lawful {A = A} f fits l true = lawful_as _ (λ (o : Option A). IsSomeAnd o fits) _ (on_there fits) (on_back fits) (case_lawful Some (λ o. o) f fits (λ a. refl) (λ o a e. sym e) l)

pub optional_lawful : {A : Type 0} (f : Form A) (fits : A → Type 0) → Lawful fits f → Lawful (λ (o : Option A). IfSome o fits) (optional f)
optional_lawful {A = A} f fits l = lawful_as (optional f) (λ (o : Option A). Unit {0} × IfSome o fits) _ (λ o p. p.1) (λ o p. (tt, p))
    (one_of_lawful flag is_some (where_on f) (λ _. Unit {0}) (λ (o : Option A). IfSome o fits) flag_lawful (where_on_lawful f fits l))

-- ---- items of a rising list

pub rising_lawful : {A K B : Type 0} (less : K → K → Bool) (key_of : A → K) (key : Form K) (rest : K → Form B) (fits : K → Type 0) (fits_rest : K → B → Type 0) → Lawful fits key → ((k : K) → Lawful (fits_rest k) (rest k)) → (before : Option A)
    → Lawful (λ (x : K × B). (fits x.0 × (is_above less (option_map key_of before) x.0 ≡ true)) × fits_rest x.0 x.1) (rising less key_of key rest before)
rising_lawful less key_of key rest fits fits_rest l m before =
    pair_lawful _ rest _ fits_rest (checked_lawful (is_above less (option_map key_of before)) key fits l) m
