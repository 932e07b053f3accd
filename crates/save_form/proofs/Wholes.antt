-- What follows for every form.
use Rattle.std.proofs.Common.{◌≡◌, ◌⊎◌, inl, inr, ℕ, ◌+◌, ◌-◌, false, List, [], ◌∷◌, ◌++◌, length, take, Result, Ok, Err, refl, sym, ap, subst, ◌∙◌, arith}
use Rattle.std.specs.Prelude.{◌==◌, IfOk, IsOk}
use Rattle.std.proofs.lemmas.Bool.{eqb-true}
use Rattle.std.proofs.lemmas.Bool.Decides.{nat_tests}
use Rattle.std.proofs.lemmas.List.{append-nil, nil_from_length}
use Rattle.ws_wire.specs.Fields.{Input}
use Rattle.save_form.specs.declared.stop.Stop.{Stop}
use Rattle.save_form.specs.declared.stop.Stop.TheVariants.{Bad}
use Rattle.save_form.specs.declared.stop.Stuck.{Stuck}
use Rattle.save_form.specs.declared.stop.Stuck.TheVariants.{At, Memory}
use Rattle.save_form.specs.Forms.{Reading, Form, ended, read_all}
use Rattle.save_form.specs.Gives.{GivesAll, Fails}
use Rattle.save_form.specs.Laws.{Lawful, place, cut, StopsFirst, IsFirst}
use Rattle.save_form.proofs.Steps.{ok_is, err_is, never_both, test_ok}
use Rattle.save_form.proofs.Stops.{ok_cut, ok_longer, test_stop}

-- bytes begin with one value's spelling at most: no spelling is a proper prefix of another's, and none has two values
pub one_reading : {A : Type 0} (fits : A → Type 0) (f : Form A) → Lawful fits f → (a b : A) (xs ys : List ℕ) → fits a → fits b → f.spell a ++ xs ≡ f.spell b ++ ys → (a ≡ b) × (xs ≡ ys)
one_reading {A = A} fits f l a b xs ys fit_a fit_b e =
    let there : f.read (record { at = 0; left = f.spell a ++ xs }) ≡ f.read (record { at = 0; left = f.spell b ++ ys }) = ap (λ (left : List ℕ). f.read (record { at = 0; left = left })) e in
    let same : (a, record { at = 0 + length (f.spell a); left = xs }) ≡ (b, record { at = 0 + length (f.spell b); left = ys }) =
    ok_is (a, record { at = 0 + length (f.spell a); left = xs }) (b, record { at = 0 + length (f.spell b); left = ys }) (sym (l.again 0 a xs fit_a) ∙ there ∙ l.again 0 b ys fit_b) in
    (ap (λ (x : A × Input). x.0) same, ap (λ (x : A × Input). x.1.left) same)

pub no_prefix : {A : Type 0} (fits : A → Type 0) (f : Form A) → Lawful fits f → (a b : A) (rest : List ℕ) → fits a → fits b → f.spell b ≡ f.spell a ++ rest → (a ≡ b) × (rest ≡ [])
no_prefix fits f l a b rest fit_a fit_b e = one_reading fits f l a b rest [] fit_a fit_b (sym e ∙ sym (append-nil (f.spell b)))

-- where reading can't go on, no value's spelling stands at the front
pub no_value : {A : Type 0} (fits : A → Type 0) (f : Form A) → Lawful fits f → (i : Input) (stop : Stop) → f.read i ≡ Err stop → (a : A) (rest : List ℕ) → fits a → i.left ≡ f.spell a ++ rest → ⊥
no_value fits f l i stop stuck a rest fit e =
    let there : f.read i ≡ f.read (record { at = i.at; left = f.spell a ++ rest }) = ap (λ (left : List ℕ). f.read (record { at = i.at; left = left })) e in
    never_both (a, record { at = i.at + length (f.spell a); left = rest }) stop (sym (there ∙ l.again i.at a rest fit) ∙ stuck)

-- ---- whole texts

ended_ok : {A : Type 0} (r : Reading A) (a : A) → ended r ≡ Ok a → (i : Input) × (i.left ≡ []) × (r ≡ Ok (a, i))
ended_ok {A = A} (Ok x) a e =
    let p = test_ok (length x.1.left == 0) (Bad x.1.at) x.0 a e in
    (x.1, nil_from_length x.1.left (eqb-true _ _ p.0), ap (λ (b : A). Ok (b, x.1)) p.1)
ended_ok (Err stop) a e = absurd cc

-- what is read of all the bytes is spelled by them
pub all_found : {A : Type 0} (fits : A → Type 0) (f : Form A) → Lawful fits f → (bytes : List ℕ) (a : A) → read_all f bytes ≡ Ok a → fits a × (bytes ≡ f.spell a)
all_found fits f l bytes a e =
    let p = ended_ok (f.read (record { at = 0; left = bytes })) a e in
    let one = l.takes (record { at = 0; left = bytes }) p.0 a p.2 in
    (one.1, one.0.bytes ∙ ap (λ (r : List ℕ). f.spell a ++ r) p.1 ∙ append-nil (f.spell a))

-- and what is spelled is read
pub all_again : {A : Type 0} (fits : A → Type 0) (f : Form A) → Lawful fits f → (a : A) → fits a → read_all f (f.spell a) ≡ Ok a
all_again fits f l a fit =
    let one : f.read (record { at = 0; left = f.spell a }) ≡ Ok (a, record { at = 0 + length (f.spell a); left = [] }) =
    ap (λ (left : List ℕ). f.read (record { at = 0; left = left })) (sym (append-nil (f.spell a))) ∙ l.again 0 a [] fit in
    ap ended one

-- the same of a call that reads all the bytes
pub is_found : {A : Type 0} (fits : A → Type 0) (f : Form A) → Lawful fits f → (bytes : List ℕ) (r : Result A Stuck) → GivesAll r (read_all f bytes) → IfOk r (λ a. fits a × (bytes ≡ f.spell a))
is_found fits f l bytes (Ok a) given = all_found fits f l bytes a given
is_found fits f l bytes (Err e) given = tt

pub is_read : {A : Type 0} (fits : A → Type 0) (f : Form A) → Lawful fits f → (bytes : List ℕ) (r : Result A Stuck) → GivesAll r (read_all f bytes) → (a : A) → fits a → bytes ≡ f.spell a → GivesAll r (Ok a)
is_read {A = A} fits f l bytes r given a fit e =
    let there : read_all f bytes ≡ Ok a = ap (read_all f) e ∙ all_again fits f l a fit in
    subst (λ (x : Result A Stop). GivesAll r x) there given

-- ---- the place of a whole text's stop

-- a text is stuck where its form is, or behind it
ended_stuck : {A : Type 0} (r : Reading A) (s : Stop) → ended r ≡ Err s → (r ≡ Err s) ⊎ ((x : A × Input) × (r ≡ Ok x) × ((length x.1.left == 0) ≡ false) × (s ≡ Bad x.1.at))
ended_stuck {A = A} (Ok x) s e = let p = test_stop (length x.1.left == 0) x.0 x.1.at s e in inr (x, refl, p.0, p.1)
ended_stuck {A = A} (Err t) s e = inl (ap (λ (u : Stop). Err u) (err_is {A = A} t s e))

still_more : (xs ys : List ℕ) → (length xs == 0) ≡ false → (length (xs ++ ys) == 0) ≡ false
still_more [] ys e = absurd cc
still_more (x ∷ xs) ys e = grind (arith, nat_tests)

ok_there : {A : Type 0} (r : Result A Stop) (a : A) → r ≡ Ok a → IsOk r
ok_there r a e = rw e refl

pub all_first : {A : Type 0} (fits : A → Type 0) (f : Form A) → Lawful fits f → StopsFirst f → (bytes : List ℕ) (s : Stop) → read_all f bytes ≡ Err s → IsFirst f bytes s
all_first {A = A} fits f l sf bytes s e =
    let start : Input = record { at = 0; left = bytes } in
    let none : place s - 0 ≡ place s = omega arith in
    let front : read_all f (take (place s) bytes) ≡ ended (f.read (cut (place s) start)) = ap (λ (n : ℕ). read_all f (take n bytes)) (sym none) in
    record {
      first = elim (ended_stuck (f.read start) s e) [
        | inl h ↦ inl (front ∙ ap ended (sf.first start s h))
        | inr p ↦
            let at : place s ≡ p.0.1.at = ap place p.3 in
            let gone : place s - p.0.1.at ≡ 0 = omega arith in
            let read = ok_cut fits f l (place s) start p.0.1 p.0.0 p.1 (omega arith) in
            inr (ok_there (read_all f (take (place s) bytes)) p.0.0 (front ∙ ap ended read ∙ rw gone refl))
      ];
      lasting = λ more at is. elim (ended_stuck (f.read start) s e) [
        | inl h ↦ ap ended (sf.lasting more start at (h ∙ ap (λ (u : Stop). Err u) is))
        | inr p ↦
            let read = ok_longer fits f l more start p.0.1 p.0.0 p.1 in
            let left = still_more p.0.1.left more p.2 in
            ap ended read ∙ rw left (ap (λ (u : Stop). Err u) (sym p.3 ∙ is))
      ];
    }

-- ---- the same of a call that reads all the bytes

-- no other value's spelling begins with the bytes of one
pub none_longer : {A : Type 0} (fits : A → Type 0) (f : Form A) → Lawful fits f → (bytes : List ℕ) (r : Result A Stuck) → GivesAll r (read_all f bytes) → IfOk r (λ a. (b : A) (rest : List ℕ) → fits b → f.spell b ≡ bytes ++ rest → b ≡ a)
none_longer fits f l bytes (Ok a) given = λ b rest fit same.
    let is = all_found fits f l bytes a given in
    sym (no_prefix fits f l a b rest is.0 fit (same ∙ ap (λ (x : List ℕ). x ++ rest) is.1)).0
none_longer fits f l bytes (Err stuck) given = tt

stuck_at : {A : Type 0} (stuck : Stuck) (stop : Stop) (reading : Result A Stop) → Fails stuck reading → stuck ≡ At stop → reading ≡ Err stop
stuck_at (At s) stop reading fails e = let same : s ≡ stop = cc in fails ∙ ap (λ (x : Stop). Err x) same
stuck_at Memory stop reading fails e = absurd cc

pub is_first : {A : Type 0} (fits : A → Type 0) (f : Form A) → Lawful fits f → StopsFirst f → (bytes : List ℕ) (r : Result A Stuck) → GivesAll r (read_all f bytes) → (stop : Stop) → r ≡ Err (At stop) → IsFirst f bytes stop
is_first fits f l sf bytes (Ok a) given stop is = absurd cc
is_first fits f l sf bytes (Err stuck) given stop is = let same : stuck ≡ At stop = cc in all_first fits f l sf bytes stop (stuck_at stuck stop (read_all f bytes) given same)
