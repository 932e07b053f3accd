-- Lists.
use Rattle.std.proofs.Common.{◌≡◌, ℕ, zero, suc, ◌+◌, ◌^◌, ◌<◌, List, [], ◌∷◌, ◌++◌, length, Option, Some, None, Ok, refl, sym, ap, subst, add-zero, append_assoc, arith, length-append}
use Rattle.ws_wire.specs.Fields.{Input, Takes}
use Rattle.save_form.specs.Forms.{Form, ◌>>=◌, number}
use Rattle.save_form.specs.Laws.{Lawful, FitEach}
use Rattle.save_form.specs.Lists.{spell_each, read_each, list}
use Rattle.save_form.proofs.Fields.{number_lawful}
use Rattle.save_form.proofs.Steps.{ok_is, bind_ok, Takes-then}

each_takes : {A : Type 0} (item : Option A → Form A) (fits : Option A → A → Type 0) → ((before : Option A) → Lawful (fits before) (item before))
    → (n : ℕ) (before : Option A) (i j : Input) (xs : List A) → read_each item n before i ≡ Ok (xs, j) → Takes i (spell_each item before xs) j × (length xs ≡ n) × FitEach fits before xs
unfolding read_each
each_takes {A = A} item fits l zero before i j xs e =
    subst (λ (x : List A × Input). Takes i (spell_each item before x.0) x.1 × (length x.0 ≡ 0) × FitEach fits before x.0) (ok_is ([], i) (xs, j) e) (record { bytes = refl; at = omega arith }, refl, tt)
each_takes {A = A} item fits l (suc n) before i j xs e =
    let p = bind_ok ((item before).read i) (λ x. read_each item n (Some x.0) x.1 >>= λ y. Ok (x.0 ∷ y.0, y.1)) (xs, j) e in
    let q = bind_ok (read_each item n (Some p.0.0) p.0.1) (λ y. Ok (p.0.0 ∷ y.0, y.1)) (xs, j) p.2 in
    let one = (l before).takes i p.0.1 p.0.0 p.1 in
    let two = each_takes item fits l n (Some p.0.0) p.0.1 q.0.1 q.0.0 q.1 in
    let all : List A × Input = (p.0.0 ∷ q.0.0, q.0.1) in
    subst (λ (x : List A × Input). Takes i (spell_each item before x.0) x.1 × (length x.0 ≡ suc n) × FitEach fits before x.0) (ok_is all (xs, j) q.2)
    (Takes-then i p.0.1 q.0.1 ((item before).spell p.0.0) (spell_each item (Some p.0.0) q.0.0) one.0 two.0, ap suc two.1, (one.1, two.2))

each_again : {A : Type 0} (item : Option A → Form A) (fits : Option A → A → Type 0) → ((before : Option A) → Lawful (fits before) (item before))
    → (before : Option A) (at : ℕ) (xs : List A) (rest : List ℕ) → FitEach fits before xs
    → read_each item (length xs) before (record { at = at; left = spell_each item before xs ++ rest }) ≡ Ok (xs, record { at = at + length (spell_each item before xs); left = rest })
unfolding read_each
each_again item fits l before at [] rest fit = rw add-zero refl
each_again item fits l before at (x ∷ xs) rest fit =
    let a = (item before).spell x in
    let b = spell_each item (Some x) xs in
    let one = (l before).again at x (b ++ rest) fit.0 in
    let two = each_again item fits l (Some x) (at + length a) xs rest fit.1 in
    let len : at + length (a ++ b) ≡ at + length a + length b = omega (arith, length-append a b) in
    rw (append_assoc a b rest, one, two, len) refl

pub list_lawful : {A : Type 0} (item : Option A → Form A) (fits : Option A → A → Type 0) → ((before : Option A) → Lawful (fits before) (item before))
    → Lawful (λ (xs : List A). (length xs < 2 ^ 32) × FitEach fits None xs) (list item)
list_lawful {A = A} item fits l = record {
  takes = λ i j xs e.
      let p = bind_ok ((number 4).read i) (λ n. read_each item n.0 None n.1) (xs, j) e in
      let one = (number_lawful 4).takes i p.0.1 p.0.0 p.1 in
      let two = each_takes item fits l p.0.0 None p.0.1 j xs p.2 in
      let counted : Takes i ((number 4).spell (length xs)) p.0.1 = subst (λ (n : ℕ). Takes i ((number 4).spell n) p.0.1) (sym two.1) one.0 in
      (Takes-then i p.0.1 j ((number 4).spell (length xs)) (spell_each item None xs) counted two.0, (subst (λ (n : ℕ). n < 2 ^ 32) (sym two.1) one.1, two.2));
  again = λ at xs rest fit.
      let a = (number 4).spell (length xs) in
      let b = spell_each item None xs in
      let one = (number_lawful 4).again at (length xs) (b ++ rest) fit.0 in
      let two = each_again item fits l None (at + length a) xs rest fit.1 in
      let len : at + length (a ++ b) ≡ at + length a + length b = omega (arith, length-append a b) in
      rw (append_assoc a b rest, one, two, len) refl;
}
