-- Values read one behind the other, as a loop reads them.
use Rattle.std.proofs.Common.{◌≡◌, ℕ, suc, ◌-◌, ◌+◌, ◌≤◌, ◌<◌, List, [], ◌∷◌, ◌++◌, length, Option, Some, Ok, Err, refl, sym, ap, subst, ◌∙◌, append_assoc, arith, length-append}
use Rattle.std.specs.Prelude.{slice_get}
use Rattle.std.proofs.lemmas.List.{append-nil}
use Rattle.ws_wire.specs.Fields.{Input}
use Rattle.save_form.specs.declared.stop.Stuck.{Stuck}
use Rattle.save_form.specs.declared.stop.Stuck.TheVariants.{At, Memory}
use Rattle.save_form.specs.Forms.{Reading, Form, ◌>>=◌}
use Rattle.save_form.specs.Gives.{Fails}
use Rattle.save_form.specs.Lists.{read_each}

-- the last of a list
abbrev pub last : {A : Type 0} → List A → Option A
last xs = slice_get xs (length xs - 1)

at_end : {A : Type 0} (xs : List A) (x : A) → slice_get (xs ++ x ∷ []) (length xs) ≡ Some x
at_end [] x = refl
at_end (y ∷ xs) x = at_end xs x

last_new : {A : Type 0} (xs : List A) (x : A) → last (xs ++ x ∷ []) ≡ Some x
last_new xs x =
    let len : length (xs ++ x ∷ []) - 1 ≡ length xs = omega (arith, length-append xs (x ∷ [])) in
    rw len (at_end xs x)

-- what was read before, and what is still read
abbrev pub with_front : {A : Type 0} → List A → Reading (List A) → Reading (List A)
with_front front reading = reading >>= λ y. Ok (front ++ y.0, y.1)

regroup : {A : Type 0} (front : List A) (x : A) (reading : Reading (List A)) → with_front front (reading >>= λ y. Ok (x ∷ y.0, y.1)) ≡ with_front (front ++ x ∷ []) reading
regroup {A = A} front x (Ok y) = ap (λ (xs : List A). Ok (xs, y.1)) (simp append_assoc)
regroup front x (Err stop) = refl

pub goes_on : {A : Type 0} (item : Option A → Form A) (front : List A) (count n : ℕ) (i j : Input) (x : A) (before : Option A) (total : Reading (List A)) → n < count → before ≡ last front → (item before).read i ≡ Ok (x, j)
    → with_front front (read_each item (count - n) (last front) i) ≡ total → with_front (front ++ x ∷ []) (read_each item (count - (n + 1)) (last (front ++ x ∷ [])) j) ≡ total
unfolding read_each
goes_on {A = A} item front count n i j x before total lt same h0 so_far =
    let h : (item (last front)).read i ≡ Ok (x, j) = subst (λ (b : Option A). (item b).read i ≡ Ok (x, j)) same h0 in
    let k : count - n ≡ suc (count - (n + 1)) = omega arith in
    let newest = last_new front x in
    let one : with_front front (read_each item (count - n) (last front) i) ≡ with_front (front ++ x ∷ []) (read_each item (count - (n + 1)) (Some x) j) = rw (k, h) (regroup front x (read_each item (count - (n + 1)) (Some x) j)) in
    rw newest (sym one ∙ so_far)

pub gets_stuck : {A : Type 0} (item : Option A → Form A) (e : Stuck) (front : List A) (count n : ℕ) (i : Input) (before : Option A) (total : Reading (List A)) → n < count → before ≡ last front → Fails e ((item before).read i)
    → with_front front (read_each item (count - n) (last front) i) ≡ total → Fails e total
unfolding read_each
gets_stuck item Memory front count n i before total lt same h so_far = tt
gets_stuck {A = A} item (At stop) front count n i before total lt same h0 so_far =
    let h : (item (last front)).read i ≡ Err stop = subst (λ (b : Option A). (item b).read i ≡ Err stop) same h0 in
    let k : count - n ≡ suc (count - (n + 1)) = omega arith in
    let one : with_front front (read_each item (count - n) (last front) i) ≡ Err stop = rw (k, h) refl in
    sym so_far ∙ one

pub is_done : {A : Type 0} (item : Option A → Form A) (front : List A) (count n : ℕ) (i : Input) (total : Reading (List A)) → count ≤ n → with_front front (read_each item (count - n) (last front) i) ≡ total → total ≡ Ok (front, i)
unfolding read_each
is_done {A = A} item front count n i total le so_far =
    let k : count - n ≡ 0 = omega arith in
    let one : with_front front (read_each item (count - n) (last front) i) ≡ Ok (front, i) = rw k (ap (λ (xs : List A). Ok (xs, i)) (append-nil front)) in
    sym so_far ∙ one
