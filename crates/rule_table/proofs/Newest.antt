-- The last element that passes a test, looked for from the end.
use Rattle.std.proofs.Common.{◌≡◌, ℕ, zero, suc, ◌-◌, ◌<◌, ◌≤◌, Bool, true, false, cond, not, ◌&&◌, ◌||◌, List, [], ◌∷◌, ◌++◌, length, take, drop, get_or, Some, None, refl, sym, ap, ◌∙◌, arith, append_assoc, append-nil, drop-cons}
use Rattle.std.proofs.Math.Seq.{take-suc}
use Rattle.std.specs.List.{list_any, remove}
use Rattle.std.proofs.lemmas.Bool.Decides.{nat_tests}
use Rattle.rule_table.specs.declared.held.Held.{Held}
use Rattle.rule_table.specs.Tables.{or_before, newest, is_of, without_last}

pub newest-push : {T : Type 0} (p : T → Bool) (xs : List T) (x : T) → newest p (xs ++ x ∷ []) ≡ cond (p x) (Some x) (newest p xs)
newest-push p [] x = refl
newest-push {T} p (y ∷ ys) x = ap (or_before p y) (newest-push p ys x) ∙ by (p x)
  where
    by : (b : Bool) → or_before p y (cond b (Some x) (newest p ys)) ≡ cond b (Some x) (or_before p y (newest p ys))
    by true = refl
    by false = refl

any-push : {T : Type 0} (p : T → Bool) (xs : List T) (x : T) → list_any p (xs ++ x ∷ []) ≡ (p x || list_any p xs)
any-push p [] x = refl
any-push {T} p (y ∷ ys) x = ap (λ b. p y || b) (any-push p ys x) ∙ by (p x) (p y)
  where
    by : (a b : Bool) → (b || (a || list_any p ys)) ≡ (a || (b || list_any p ys))
    by true true = refl
    by true false = refl
    by false b = refl

pub without_last-push : {A : Type 0} (k : ℕ) (xs : List (Held A)) (x : Held A) → without_last k (xs ++ x ∷ []) ≡ cond (is_of k x) xs (without_last k xs ++ x ∷ [])
without_last-push k [] x = by (is_of k x)
  where
    by : (b : Bool) → cond (b && true) [] (x ∷ []) ≡ cond b [] (x ∷ [])
    by true = refl
    by false = refl
without_last-push {A} k (y ∷ ys) x =
    (λ i. cond (is_of k y && not (any-push (is_of k) ys x i)) (ys ++ x ∷ []) (y ∷ without_last-push k ys x i))
    ∙ by (is_of k x) (is_of k y) (list_any (is_of k) ys)
  where
    by : (a b c : Bool) → cond (b && not (a || c)) (ys ++ x ∷ []) (y ∷ cond a ys (without_last k ys ++ x ∷ [])) ≡ cond a (y ∷ ys) (cond (b && not c) ys (y ∷ without_last k ys) ++ x ∷ [])
    by true true c = refl
    by true false c = refl
    by false true true = refl
    by false true false = refl
    by false false c = refl

same_inside : {T : Type 0} (xs : List T) (n : ℕ) (d e : T) → n < length xs → get_or xs n d ≡ get_or xs n e
same_inside [] n d e l = absurd (omega arith)
same_inside (x ∷ xs) zero d e l = refl
same_inside (x ∷ xs) (suc n) d e l = same_inside xs n d e (omega arith)

take_all : {T : Type 0} (xs : List T) → take (length xs) xs ≡ xs
take_all [] = refl
take_all (x ∷ xs) = ap (λ ys. x ∷ ys) (take_all xs)

drop_all : {T : Type 0} (xs : List T) → drop (length xs) xs ≡ []
drop_all [] = refl
drop_all (x ∷ xs) = drop_all xs

-- nothing from here on passes
pub record NoneFrom {T : Type 0} (p : T → Bool) (xs : List T) (at : ℕ) : Type 0 where
  pub within : at ≤ length xs
  pub front : newest p (take at xs) ≡ newest p xs

pub none_yet : {T : Type 0} (p : T → Bool) (xs : List T) → NoneFrom p xs (length xs)
none_yet p xs = record { within = omega arith; front = ap (newest p) (take_all xs) }

front_is : {T : Type 0} (p : T → Bool) (xs : List T) (n : ℕ) (d : T) → n < length xs → NoneFrom p xs (suc n) → newest p xs ≡ cond (p (get_or xs n d)) (Some (get_or xs n d)) (newest p (take n xs))
front_is p xs n d l h = sym h.front ∙ ap (newest p) (take-suc xs n d l) ∙ newest-push p (take n xs) (get_or xs n d)

pub none_more : {T : Type 0} (p : T → Bool) (xs : List T) (at : ℕ) (x : T) → 0 < at → x ≡ get_or xs (at - 1) x → p x ≡ false → NoneFrom p xs at → NoneFrom p xs (at - 1)
none_more p xs zero x l e f h = absurd (omega arith)
none_more p xs (suc n) x l e f h =
    let back : suc n - 1 ≡ n = omega arith in
    let bound : suc n ≤ length xs = h.within in
    let inside : n < length xs = omega arith in
    let here : get_or xs n x ≡ x = sym (e ∙ ap (λ m. get_or xs m x) back) in
    record {
      within = omega arith;
      front = ap (λ m. newest p (take m xs)) back ∙ sym (front_is p xs n x inside h ∙ ap (λ b. cond b (Some (get_or xs n x)) (newest p (take n xs))) (ap p here ∙ f));
    }

pub found_at : {T : Type 0} (p : T → Bool) (xs : List T) (at : ℕ) (x d : T) → 0 < at → x ≡ get_or xs (at - 1) x → p x ≡ true → NoneFrom p xs at → newest p xs ≡ Some (get_or xs (at - 1) d)
found_at p xs zero x d l e f h = absurd (omega arith)
found_at p xs (suc n) x d l e f h =
    let back : suc n - 1 ≡ n = omega arith in
    let bound : suc n ≤ length xs = h.within in
    let inside : n < length xs = omega arith in
    let here : get_or xs n d ≡ x = same_inside xs n d x inside ∙ sym (e ∙ ap (λ m. get_or xs m x) back) in
    front_is p xs n d inside h
    ∙ ap (λ b. cond b (Some (get_or xs n d)) (newest p (take n xs))) (ap p here ∙ f)
    ∙ ap (λ m. Some (get_or xs m d)) (sym back)

pub found_here : {T : Type 0} (p : T → Bool) (xs : List T) (at : ℕ) (x : T) → 0 < at → x ≡ get_or xs (at - 1) x → p x ≡ true → NoneFrom p xs at → newest p xs ≡ Some x
found_here p xs at x l e f h = found_at p xs at x x l e f h ∙ ap Some (sym e)

pub none_at_all : {T : Type 0} (p : T → Bool) (xs : List T) (at : ℕ) → at ≤ 0 → NoneFrom p xs at → newest p xs ≡ None
none_at_all p xs zero l h = sym h.front
none_at_all p xs (suc n) l h = absurd (omega arith)

-- what is from here on stays where the last rule of a holder goes
abbrev pub StaysFrom : {A : Type 0} → ℕ → List (Held A) → ℕ → Type 0
StaysFrom k xs at = without_last k xs ≡ without_last k (take at xs) ++ drop at xs

pub all_stay : {A : Type 0} (k : ℕ) (xs : List (Held A)) → StaysFrom k xs (length xs)
all_stay k xs = sym (append-nil (without_last k xs)) ∙ (λ i. without_last k (sym (take_all xs) i) ++ sym (drop_all xs) i)

stays_is : {A : Type 0} (k : ℕ) (xs : List (Held A)) (n : ℕ) (d : Held A) → n < length xs → StaysFrom k xs (suc n) → without_last k xs ≡ cond (is_of k (get_or xs n d)) (take n xs) (without_last k (take n xs) ++ get_or xs n d ∷ []) ++ drop (suc n) xs
stays_is k xs n d l h = h ∙ ap (λ ys. ys ++ drop (suc n) xs) (ap (without_last k) (take-suc xs n d l) ∙ without_last-push k (take n xs) (get_or xs n d))

pub stays_more : {A : Type 0} (k : ℕ) (xs : List (Held A)) (at : ℕ) (x : Held A) → 0 < at → at ≤ length xs → x ≡ get_or xs (at - 1) x → is_of k x ≡ false → StaysFrom k xs at → StaysFrom k xs (at - 1)
stays_more k xs zero x l w e f h = absurd (omega arith)
stays_more k xs (suc n) x l w e f h =
    let back : suc n - 1 ≡ n = omega arith in
    let inside : n < length xs = omega arith in
    let here : get_or xs n x ≡ x = sym (e ∙ ap (λ m. get_or xs m x) back) in
    stays_is k xs n x inside h
    ∙ ap (λ b. cond b (take n xs) (without_last k (take n xs) ++ get_or xs n x ∷ []) ++ drop (suc n) xs) (ap (is_of k) here ∙ f)
    ∙ append_assoc (without_last k (take n xs)) (get_or xs n x ∷ []) (drop (suc n) xs)
    ∙ ap (λ ys. without_last k (take n xs) ++ ys) (sym (drop-cons xs n x inside))
    ∙ ap (λ m. without_last k (take m xs) ++ drop m xs) (sym back)

pub removed_at : {A : Type 0} (k : ℕ) (xs : List (Held A)) (at : ℕ) (x : Held A) → 0 < at → at ≤ length xs → x ≡ get_or xs (at - 1) x → is_of k x ≡ true → StaysFrom k xs at → remove xs (at - 1) ≡ without_last k xs
removed_at k xs zero x l w e f h = absurd (omega arith)
removed_at k xs (suc n) x l w e f h =
    let back : suc n - 1 ≡ n = omega arith in
    let inside : n < length xs = omega arith in
    let here : get_or xs n x ≡ x = sym (e ∙ ap (λ m. get_or xs m x) back) in
    ap (remove xs) back
    ∙ sym (stays_is k xs n x inside h
    ∙ ap (λ b. cond b (take n xs) (without_last k (take n xs) ++ get_or xs n x ∷ []) ++ drop (suc n) xs) (ap (is_of k) here ∙ f))

-- ---- what a comparison of holders says

pub is_his : {A : Type 0} (k : ℕ) (x y : Held A) → x ≡ y → y.holder ≡ k → is_of k x ≡ true
is_his k x y e h = let same : x.holder ≡ k = (λ i. (e i).holder) ∙ h in grind (arith, nat_tests)

pub is_not_his : {A : Type 0} (k : ℕ) (x y : Held A) → x ≡ y → (y.holder ≡ k → ⊥) → is_of k x ≡ false
is_not_his {A} k x y e h = by (is_of k x) refl
  where
    by : (b : Bool) → is_of k x ≡ b → b ≡ false
    by true t = absurd (h (let same : x.holder ≡ k = grind (arith, nat_tests) in sym (λ i. (e i).holder) ∙ same))
    by false t = refl
