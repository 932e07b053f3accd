-- The place of a stop is the first, of each form.
use Rattle.std.proofs.Common.{◌≡◌, ℕ, zero, suc, ◌+◌, ◌-◌, ◌^◌, ◌<◌, ◌≤◌, Bool, true, false, cond, List, [], ◌∷◌, ◌++◌, length, take, Option, Some, None, Ok, Err, refl, sym, ap, lit<, ◌∙◌, append_assoc, arith, inl, inr}
use Rattle.std.specs.Prelude.{bytes_eq, is_some}
use Rattle.std.specs.Option.{option_map}
use Rattle.std.proofs.Math.Seq.{take-append-add}
use Rattle.byteorder.specs.Endian.{big_number}
use Rattle.ws_wire.specs.Fields.{Input, number_field, text_field, text_size}
use Rattle.save_form.specs.declared.stop.Stop.{Stop}
use Rattle.save_form.specs.declared.stop.Stop.TheVariants.{Short, Bad}
use Rattle.save_form.specs.Forms.{Form, ◌>>=◌, behind, number, text_meant, text, nothing, pair, checked, seen_as, made_at, made, spell_some, as_case, one_of, flag_of, flag_number, flag, where_on, optional}
use Rattle.save_form.specs.Laws.{Lawful, place, cut, longer, StopsFirst, TakesBytes}
use Rattle.save_form.specs.Lists.{read_each, list, is_above, rising}
use Rattle.save_form.proofs.Combined.{checked_lawful, flag_lawful}
use Rattle.save_form.proofs.Fields.{number_lawful, number_short, text_short}
use Rattle.save_form.proofs.Steps.{err_is, never_both, bind_stuck}

-- what was read is read with more bytes behind it too
pub ok_longer : {A : Type 0} (fits : A → Type 0) (f : Form A) → Lawful fits f → (more : List ℕ) (i j : Input) (a : A) → f.read i ≡ Ok (a, j) → f.read (longer more i) ≡ Ok (a, longer more j)
ok_longer {A = A} fits f l more i j a e =
    let p = l.takes i j a e in
    let there : i.left ++ more ≡ f.spell a ++ (j.left ++ more) = ap (λ (x : List ℕ). x ++ more) p.0.bytes ∙ append_assoc (f.spell a) j.left more in
    ap (λ (x : List ℕ). f.read (record { at = i.at; left = x })) there ∙ l.again i.at a (j.left ++ more) p.1 ∙ ap (λ (k : ℕ). Ok (a, record { at = k; left = j.left ++ more })) (sym p.0.at)

-- and where the text is cut behind it
pub ok_cut : {A : Type 0} (fits : A → Type 0) (f : Form A) → Lawful fits f → (k : ℕ) (i j : Input) (a : A) → f.read i ≡ Ok (a, j) → j.at ≤ k → f.read (cut k i) ≡ Ok (a, cut k j)
ok_cut {A = A} fits f l k i j a e le =
    let p = l.takes i j a e in
    let n : k - i.at ≡ length (f.spell a) + (k - j.at) = omega (arith, p.0.at) in
    let there : take (k - i.at) i.left ≡ f.spell a ++ take (k - j.at) j.left = rw (n, p.0.bytes) (take-append-add (f.spell a) j.left (k - j.at)) in
    ap (λ (x : List ℕ). f.read (record { at = i.at; left = x })) there ∙ l.again i.at a (take (k - j.at) j.left) p.1 ∙ ap (λ (m : ℕ). Ok (a, record { at = m; left = take (k - j.at) j.left })) (sym p.0.at)

-- cut where it begins, its first byte is wanting
start_cut : {A : Type 0} (f : Form A) → TakesBytes f → (i : Input) (k : ℕ) → k ≡ i.at → f.read (cut k i) ≡ Err (Short k)
start_cut f starts i k e =
    let none : k - i.at ≡ 0 = omega arith in
    ap (λ (n : ℕ). f.read (record { at = i.at; left = take n i.left })) none ∙ starts i.at ∙ ap (λ (n : ℕ). Err (Short n)) (sym e)

-- ---- fields

short_not_bad : (n k : ℕ) → Short n ≡ Bad k → ⊥
short_not_bad n k e = absurd cc

field_stop : {A : Type 0} (b : Bool) (x : A × Input) (n : ℕ) (s : Stop) → cond b (Ok x) (Err (Short n)) ≡ Err s → s ≡ Short n
field_stop true x n s e = absurd (never_both x s e)
field_stop {A = A} false x n s e = sym (err_is {A = A × Input} (Short n) s e)

-- a form that gets stuck at its first byte alone, for want of bytes
field_stops : {A : Type 0} (f : Form A) → TakesBytes f → ((i : Input) (s : Stop) → f.read i ≡ Err s → s ≡ Short i.at) → StopsFirst f
field_stops f starts only = record {
  low = λ i s e. let at : place s ≡ i.at = ap place (only i s e) in omega arith;
  first = λ i s e. start_cut f starts i (place s) (ap place (only i s e));
  lasting = λ more i at e. absurd (short_not_bad i.at at (sym (only i (Bad at) e)));
}

number_stop : (width : ℕ) (i : Input) (s : Stop) → (number width).read i ≡ Err s → s ≡ Short i.at
unfolding number
number_stop width i s e =
    let field = number_field width (big_number width i.left) in
    field_stop (bytes_eq field (take (length field) i.left)) (big_number width i.left, behind (length field) i) i.at s e

text_stop : (i : Input) (s : Stop) → text.read i ≡ Err s → s ≡ Short i.at
unfolding text
text_stop i s e =
    let field = text_field (text_meant i.left) in
    field_stop (bytes_eq field (take (length field) i.left)) (text_meant i.left, behind (length field) i) i.at s e

text_size_positive : (bytes : List ℕ) → 0 < text_size bytes
unfolding text_size
text_size_positive bytes = omega arith

pub number_bytes : (width : ℕ) → 0 < width → TakesBytes (number width)
number_bytes width positive at = number_short width (record { at = at; left = [] }) positive

pub text_bytes : TakesBytes text
text_bytes at = text_short (record { at = at; left = [] }) (text_size_positive [])

pub number_stops : (width : ℕ) → 0 < width → StopsFirst (number width)
number_stops width positive = field_stops (number width) (number_bytes width positive) (number_stop width)

pub text_stops : StopsFirst text
text_stops = field_stops text text_bytes text_stop

-- ---- forms of other forms

pub nothing_stops : {A : Type 0} (a : A) → StopsFirst (nothing a)
nothing_stops a = record {
  low = λ i s e. absurd (never_both (a, i) s e);
  first = λ i s e. absurd (never_both (a, i) s e);
  lasting = λ more i at e. absurd (never_both (a, i) (Bad at) e);
}

pub pair_bytes : {A B : Type 0} (f : Form A) (g : A → Form B) → TakesBytes f → TakesBytes (pair f g)
pair_bytes f g starts at = let a = starts at in rw a refl

pub pair_stops : {A B : Type 0} (fits : A → Type 0) (f : Form A) (g : A → Form B) → Lawful fits f → StopsFirst f → ((a : A) → StopsFirst (g a)) → StopsFirst (pair f g)
pair_stops {A = A} {B = B} fits f g l sf sg = record {
  low = λ i s e. elim (bind_stuck (f.read i) (λ x. (g x.0).read x.1 >>= λ y. Ok ((x.0, y.0), y.1)) s e) [
    | inl h ↦ sf.low i s h
    | inr p ↦ elim (bind_stuck ((g p.0.0).read p.0.1) (λ y. Ok ((p.0.0, y.0), y.1)) s p.2) [
      | inl h ↦ let at = (l.takes i p.0.1 p.0.0 p.1).0.at in let le = (sg p.0.0).low p.0.1 s h in omega arith
      | inr q ↦ absurd (never_both ((p.0.0, q.0.0), q.0.1) s q.2)
    ]
  ];
  first = λ i s e. elim (bind_stuck (f.read i) (λ x. (g x.0).read x.1 >>= λ y. Ok ((x.0, y.0), y.1)) s e) [
    | inl h ↦ let a = sf.first i s h in rw a refl
    | inr p ↦ elim (bind_stuck ((g p.0.0).read p.0.1) (λ y. Ok ((p.0.0, y.0), y.1)) s p.2) [
      | inl h ↦ let a = ok_cut fits f l (place s) i p.0.1 p.0.0 p.1 ((sg p.0.0).low p.0.1 s h) in let b = (sg p.0.0).first p.0.1 s h in rw (a, b) refl
      | inr q ↦ absurd (never_both ((p.0.0, q.0.0), q.0.1) s q.2)
    ]
  ];
  lasting = λ more i at e. elim (bind_stuck (f.read i) (λ x. (g x.0).read x.1 >>= λ y. Ok ((x.0, y.0), y.1)) (Bad at) e) [
    | inl h ↦ let a = sf.lasting more i at h in rw a refl
    | inr p ↦ let a = ok_longer fits f l more i p.0.1 p.0.0 p.1 in
        elim (bind_stuck ((g p.0.0).read p.0.1) (λ y. Ok ((p.0.0, y.0), y.1)) (Bad at) p.2) [
          | inl h ↦ let b = (sg p.0.0).lasting more p.0.1 at h in rw (a, b) refl
          | inr q ↦ absurd (never_both ((p.0.0, q.0.0), q.0.1) (Bad at) q.2)
        ]
  ];
}

pub test_stop : {A : Type 0} (b : Bool) (x : A) (n : ℕ) (s : Stop) → cond b (Ok x) (Err (Bad n)) ≡ Err s → (b ≡ false) × (s ≡ Bad n)
test_stop true x n s e = absurd (never_both x s e)
test_stop {A = A} false x n s e = (refl, sym (err_is {A = A} (Bad n) s e))

pub checked_bytes : {A : Type 0} (test : A → Bool) (f : Form A) → TakesBytes f → TakesBytes (checked test f)
checked_bytes test f starts at = let a = starts at in rw a refl

pub checked_stops : {A : Type 0} (fits : A → Type 0) (test : A → Bool) (f : Form A) → Lawful fits f → TakesBytes f → StopsFirst f → StopsFirst (checked test f)
checked_stops fits test f l starts sf = record {
  low = λ i s e. elim (bind_stuck (f.read i) (λ x. cond (test x.0) (Ok x) (Err (Bad i.at))) s e) [
    | inl h ↦ sf.low i s h
    | inr p ↦ let at : place s ≡ i.at = ap place (test_stop (test p.0.0) p.0 i.at s p.2).1 in omega arith
  ];
  first = λ i s e. elim (bind_stuck (f.read i) (λ x. cond (test x.0) (Ok x) (Err (Bad i.at))) s e) [
    | inl h ↦ let a = sf.first i s h in rw a refl
    | inr p ↦ let a = start_cut f starts i (place s) (ap place (test_stop (test p.0.0) p.0 i.at s p.2).1) in rw a refl
  ];
  lasting = λ more i at e. elim (bind_stuck (f.read i) (λ x. cond (test x.0) (Ok x) (Err (Bad i.at))) (Bad at) e) [
    | inl h ↦ let a = sf.lasting more i at h in rw a refl
    | inr p ↦
        let a = ok_longer fits f l more i p.0.1 p.0.0 p.1 in
        let failed = test_stop (test p.0.0) p.0 i.at (Bad at) p.2 in
        let fails = failed.0 in
        rw (a, fails) (ap (λ (s : Stop). Err s) (sym failed.1))
  ];
}

made_stop : {B : Type 0} (at : ℕ) (o : Option B) (x : Input) (s : Stop) → made_at at o x ≡ Err s → (o ≡ None) × (s ≡ Bad at)
made_stop {B = B} at None x s e = (refl, sym (err_is {A = B × Input} (Bad at) s e))
made_stop at (Some b) x s e = absurd (never_both (b, x) s e)

pub made_bytes : {A B : Type 0} (to : A → Option B) (from : B → A) (f : Form A) → TakesBytes f → TakesBytes (made to from f)
made_bytes to from f starts at = let a = starts at in rw a refl

pub made_stops : {A B : Type 0} (fits : A → Type 0) (to : A → Option B) (from : B → A) (f : Form A) → Lawful fits f → TakesBytes f → StopsFirst f → StopsFirst (made to from f)
made_stops fits to from f l starts sf = record {
  low = λ i s e. elim (bind_stuck (f.read i) (λ x. made_at i.at (to x.0) x.1) s e) [
    | inl h ↦ sf.low i s h
    | inr p ↦ let at : place s ≡ i.at = ap place (made_stop i.at (to p.0.0) p.0.1 s p.2).1 in omega arith
  ];
  first = λ i s e. elim (bind_stuck (f.read i) (λ x. made_at i.at (to x.0) x.1) s e) [
    | inl h ↦ let a = sf.first i s h in rw a refl
    | inr p ↦ let a = start_cut f starts i (place s) (ap place (made_stop i.at (to p.0.0) p.0.1 s p.2).1) in rw a refl
  ];
  lasting = λ more i at e. elim (bind_stuck (f.read i) (λ x. made_at i.at (to x.0) x.1) (Bad at) e) [
    | inl h ↦ let a = sf.lasting more i at h in rw a refl
    | inr p ↦
        let a = ok_longer fits f l more i p.0.1 p.0.0 p.1 in
        let failed = made_stop i.at (to p.0.0) p.0.1 (Bad at) p.2 in
        let fails = failed.0 in
        rw (a, fails) (ap (λ (s : Stop). Err s) (sym failed.1))
  ];
}

-- other values of what is read
told_stops : {A B : Type 0} (spell : B → List ℕ) (to : A → B) (f : Form A) → StopsFirst f → StopsFirst {A = B} (record { spell = spell; read = λ i. f.read i >>= λ x. Ok (to x.0, x.1) })
told_stops spell to f sf = record {
  low = λ i s e. elim (bind_stuck (f.read i) (λ x. Ok (to x.0, x.1)) s e) [ inl h ↦ sf.low i s h | inr p ↦ absurd (never_both (to p.0.0, p.0.1) s p.2) ];
  first = λ i s e. elim (bind_stuck (f.read i) (λ x. Ok (to x.0, x.1)) s e) [ inl h ↦ let a = sf.first i s h in rw a refl | inr p ↦ absurd (never_both (to p.0.0, p.0.1) s p.2) ];
  lasting = λ more i at e. elim (bind_stuck (f.read i) (λ x. Ok (to x.0, x.1)) (Bad at) e) [ inl h ↦ let a = sf.lasting more i at h in rw a refl | inr p ↦ absurd (never_both (to p.0.0, p.0.1) (Bad at) p.2) ];
}

pub seen_bytes : {A B : Type 0} (to : A → B) (from : B → A) (f : Form A) → TakesBytes f → TakesBytes (seen_as to from f)
seen_bytes to from f starts at = let a = starts at in rw a refl

pub seen_stops : {A B : Type 0} (to : A → B) (from : B → A) (f : Form A) → StopsFirst f → StopsFirst (seen_as to from f)
seen_stops to from f sf = told_stops (λ b. f.spell (from b)) to f sf

pub case_stops : {A B : Type 0} (to : A → B) (from : B → Option A) (f : Form A) → StopsFirst f → StopsFirst (as_case to from f)
case_stops to from f sf = told_stops (λ b. spell_some f (from b)) to f sf

pub one_of_bytes : {S A : Type 0} (tag : Form S) (sort : A → S) (forms : S → Form A) → TakesBytes tag → TakesBytes (one_of tag sort forms)
one_of_bytes {S = S} {A = A} tag sort forms starts = seen_bytes (λ (x : S × A). x.1) (λ (a : A). (sort a, a)) (pair tag forms) (pair_bytes tag forms starts)

pub one_of_stops : {S A : Type 0} (sorts : S → Type 0) (tag : Form S) (sort : A → S) (forms : S → Form A) → Lawful sorts tag → StopsFirst tag → ((s : S) → StopsFirst (forms s)) → StopsFirst (one_of tag sort forms)
one_of_stops {S = S} {A = A} sorts tag sort forms l st sf = seen_stops (λ (x : S × A). x.1) (λ (a : A). (sort a, a)) (pair tag forms) (pair_stops sorts tag forms l st sf)

-- ---- flags, and optional values

pub flag_bytes : TakesBytes flag
flag_bytes = made_bytes flag_of flag_number (number 1) (number_bytes 1 (lit< tt))

pub flag_stops : StopsFirst flag
flag_stops = made_stops (λ n. n < 256 ^ 1) flag_of flag_number (number 1) (number_lawful 1) (number_bytes 1 (lit< tt)) (number_stops 1 (lit< tt))

where_on_stops : {A : Type 0} (f : Form A) → StopsFirst f → (b : Bool) → StopsFirst (where_on f b)
where_on_stops f sf false = nothing_stops None
where_on_stops f sf true = case_stops Some (λ o. o) f sf

pub optional_bytes : {A : Type 0} (f : Form A) → TakesBytes (optional f)
optional_bytes f = one_of_bytes flag is_some (where_on f) flag_bytes

pub optional_stops : {A : Type 0} (f : Form A) → StopsFirst f → StopsFirst (optional f)
optional_stops f sf = one_of_stops (λ _. Unit {0}) flag is_some (where_on f) flag_lawful flag_stops (where_on_stops f sf)

-- ---- lists

each_low : {A : Type 0} (item : Option A → Form A) (fits : Option A → A → Type 0) → ((before : Option A) → Lawful (fits before) (item before)) → ((before : Option A) → StopsFirst (item before))
    → (n : ℕ) (before : Option A) (i : Input) (s : Stop) → read_each item n before i ≡ Err s → i.at ≤ place s
unfolding read_each
each_low item fits l st zero before i s e = absurd (never_both ([], i) s e)
each_low item fits l st (suc n) before i s e =
    elim (bind_stuck ((item before).read i) (λ x. read_each item n (Some x.0) x.1 >>= λ y. Ok (x.0 ∷ y.0, y.1)) s e) [
      | inl h ↦ (st before).low i s h
      | inr p ↦ elim (bind_stuck (read_each item n (Some p.0.0) p.0.1) (λ y. Ok (p.0.0 ∷ y.0, y.1)) s p.2) [
        | inl h ↦ let at = ((l before).takes i p.0.1 p.0.0 p.1).0.at in let le = each_low item fits l st n (Some p.0.0) p.0.1 s h in omega arith
        | inr q ↦ absurd (never_both (p.0.0 ∷ q.0.0, q.0.1) s q.2)
      ]
    ]

each_first : {A : Type 0} (item : Option A → Form A) (fits : Option A → A → Type 0) → ((before : Option A) → Lawful (fits before) (item before)) → ((before : Option A) → StopsFirst (item before))
    → (n : ℕ) (before : Option A) (i : Input) (s : Stop) → read_each item n before i ≡ Err s → read_each item n before (cut (place s) i) ≡ Err (Short (place s))
unfolding read_each
each_first item fits l st zero before i s e = absurd (never_both ([], i) s e)
each_first item fits l st (suc n) before i s e =
    elim (bind_stuck ((item before).read i) (λ x. read_each item n (Some x.0) x.1 >>= λ y. Ok (x.0 ∷ y.0, y.1)) s e) [
      | inl h ↦ let a = (st before).first i s h in rw a refl
      | inr p ↦ elim (bind_stuck (read_each item n (Some p.0.0) p.0.1) (λ y. Ok (p.0.0 ∷ y.0, y.1)) s p.2) [
        | inl h ↦ let a = ok_cut (fits before) (item before) (l before) (place s) i p.0.1 p.0.0 p.1 (each_low item fits l st n (Some p.0.0) p.0.1 s h) in
            let b = each_first item fits l st n (Some p.0.0) p.0.1 s h in rw (a, b) refl
        | inr q ↦ absurd (never_both (p.0.0 ∷ q.0.0, q.0.1) s q.2)
      ]
    ]

each_lasting : {A : Type 0} (item : Option A → Form A) (fits : Option A → A → Type 0) → ((before : Option A) → Lawful (fits before) (item before)) → ((before : Option A) → StopsFirst (item before))
    → (n : ℕ) (before : Option A) (more : List ℕ) (i : Input) (at : ℕ) → read_each item n before i ≡ Err (Bad at) → read_each item n before (longer more i) ≡ Err (Bad at)
unfolding read_each
each_lasting item fits l st zero before more i at e = absurd (never_both ([], i) (Bad at) e)
each_lasting item fits l st (suc n) before more i at e =
    elim (bind_stuck ((item before).read i) (λ x. read_each item n (Some x.0) x.1 >>= λ y. Ok (x.0 ∷ y.0, y.1)) (Bad at) e) [
      | inl h ↦ let a = (st before).lasting more i at h in rw a refl
      | inr p ↦ let a = ok_longer (fits before) (item before) (l before) more i p.0.1 p.0.0 p.1 in
          elim (bind_stuck (read_each item n (Some p.0.0) p.0.1) (λ y. Ok (p.0.0 ∷ y.0, y.1)) (Bad at) p.2) [
            | inl h ↦ let b = each_lasting item fits l st n (Some p.0.0) more p.0.1 at h in rw (a, b) refl
            | inr q ↦ absurd (never_both (p.0.0 ∷ q.0.0, q.0.1) (Bad at) q.2)
          ]
    ]

pub list_bytes : {A : Type 0} (item : Option A → Form A) → TakesBytes (list item)
list_bytes item at = let a = number_bytes 4 (lit< tt) at in rw a refl

pub list_stops : {A : Type 0} (item : Option A → Form A) (fits : Option A → A → Type 0) → ((before : Option A) → Lawful (fits before) (item before)) → ((before : Option A) → StopsFirst (item before)) → StopsFirst (list item)
list_stops item fits l st = record {
  low = λ i s e. elim (bind_stuck ((number 4).read i) (λ n. read_each item n.0 None n.1) s e) [
    | inl h ↦ (number_stops 4 (lit< tt)).low i s h
    | inr p ↦ let at = ((number_lawful 4).takes i p.0.1 p.0.0 p.1).0.at in let le = each_low item fits l st p.0.0 None p.0.1 s p.2 in omega arith
  ];
  first = λ i s e. elim (bind_stuck ((number 4).read i) (λ n. read_each item n.0 None n.1) s e) [
    | inl h ↦ let a = (number_stops 4 (lit< tt)).first i s h in rw a refl
    | inr p ↦ let a = ok_cut _ (number 4) (number_lawful 4) (place s) i p.0.1 p.0.0 p.1 (each_low item fits l st p.0.0 None p.0.1 s p.2) in
        let b = each_first item fits l st p.0.0 None p.0.1 s p.2 in rw (a, b) refl
  ];
  lasting = λ more i at e. elim (bind_stuck ((number 4).read i) (λ n. read_each item n.0 None n.1) (Bad at) e) [
    | inl h ↦ let a = (number_stops 4 (lit< tt)).lasting more i at h in rw a refl
    | inr p ↦ let a = ok_longer _ (number 4) (number_lawful 4) more i p.0.1 p.0.0 p.1 in
        let b = each_lasting item fits l st p.0.0 None more p.0.1 at p.2 in rw (a, b) refl
  ];
}

pub rising_bytes : {A K B : Type 0} (less : K → K → Bool) (key_of : A → K) (key : Form K) (rest : K → Form B) → TakesBytes key → (before : Option A) → TakesBytes (rising less key_of key rest before)
rising_bytes less key_of key rest starts before = let test = is_above less (option_map key_of before) in pair_bytes (checked test key) rest (checked_bytes test key starts)

pub rising_stops : {A K B : Type 0} (fits : K → Type 0) (less : K → K → Bool) (key_of : A → K) (key : Form K) (rest : K → Form B) → Lawful fits key → TakesBytes key → StopsFirst key → ((k : K) → StopsFirst (rest k)) → (before : Option A)
    → StopsFirst (rising less key_of key rest before)
rising_stops fits less key_of key rest l starts sk sr before =
    let test = is_above less (option_map key_of before) in
    pair_stops _ (checked test key) rest (checked_lawful test key fits l) (checked_stops fits test key l starts sk) sr
