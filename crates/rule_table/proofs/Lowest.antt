-- The first of those with the least holder, looked for from the front.
use Rattle.std.proofs.Common.{◌≡◌, ℕ, ◌+◌, ◌<◌, Bool, true, false, cond, not, ◌||◌, nat_lt, List, [], ◌∷◌, ◌++◌, length, take, get_or, Option, Some, None, refl, sym, ap, ◌∙◌, arith, append-nil}
use Rattle.std.proofs.lemmas.Bool.Decides.{nat_tests}
use Rattle.std.specs.List.{filter, list_any}
use Rattle.std.proofs.lemmas.List.Elements.{filter_more}
use Rattle.rule_table.specs.declared.held.Held.{Held}
use Rattle.rule_table.specs.Tables.{lower, lowest}
use Rattle.rule_table.specs.Inside.Found.{lower_than_found}

-- which of three stays, the middle one being the lower of the last two or not
three : {A : Type 0} (y z x : Held A) (xz zy xy : Bool) → nat_lt x.holder z.holder ≡ xz → nat_lt z.holder y.holder ≡ zy → nat_lt x.holder y.holder ≡ xy
    → lower y (lower_than_found (Some z) x) ≡ lower_than_found (lower y (Some z)) x
three y z x true true xy a b c =
    let under : nat_lt x.holder y.holder ≡ true = grind (arith, nat_tests) in
    (λ i. lower y (cond (a i) (Some x) (Some z))) ∙ (λ i. cond (under i) (Some x) (Some y)) ∙ sym ((λ i. lower_than_found (cond (b i) (Some z) (Some y)) x) ∙ (λ i. cond (a i) (Some x) (Some z)))
three y z x true false xy a b c =
    (λ i. lower y (cond (a i) (Some x) (Some z))) ∙ sym (λ i. lower_than_found (cond (b i) (Some z) (Some y)) x)
three y z x false true xy a b c =
    (λ i. lower y (cond (a i) (Some x) (Some z))) ∙ (λ i. cond (b i) (Some z) (Some y)) ∙ sym ((λ i. lower_than_found (cond (b i) (Some z) (Some y)) x) ∙ (λ i. cond (a i) (Some x) (Some z)))
three y z x false false xy a b c =
    let over : nat_lt x.holder y.holder ≡ false = grind (arith, nat_tests) in
    (λ i. lower y (cond (a i) (Some x) (Some z))) ∙ (λ i. cond (b i) (Some z) (Some y)) ∙ sym ((λ i. lower_than_found (cond (b i) (Some z) (Some y)) x) ∙ (λ i. cond (over i) (Some x) (Some y)))

lower_joined : {A : Type 0} (y x : Held A) (o : Option (Held A)) → lower y (lower_than_found o x) ≡ lower_than_found (lower y o) x
lower_joined y x None = refl
lower_joined y x (Some z) = three y z x (nat_lt x.holder z.holder) (nat_lt z.holder y.holder) (nat_lt x.holder y.holder) refl refl refl

-- one more at the end
pub lowest-push : {A : Type 0} (xs : List (Held A)) (x : Held A) → lowest (xs ++ x ∷ []) ≡ lower_than_found (lowest xs) x
lowest-push [] x = refl
lowest-push (y ∷ ys) x = ap (lower y) (lowest-push ys x) ∙ lower_joined y x (lowest ys)

-- what was found among the first i, and then among one more
pub found_next : {A : Type 0} (t : Held A → Bool) (xs : List (Held A)) (i : ℕ) (x : Held A) (o w : Option (Held A)) → i < length xs → x ≡ get_or xs i x → o ≡ lowest (filter t (take i xs)) → w ≡ cond (t x) (lower_than_found o x) o → w ≡ lowest (filter t (take (i + 1) xs))
found_next {A} t xs i x o w l e h g =
    let front = filter t (take i xs) in
    g ∙ (λ j. cond (t x) (lower_than_found (h j) x) (h j)) ∙ by (t x)
    ∙ sym (ap lowest (filter_more t xs i x l ∙ (λ j. front ++ cond (t (sym e j)) (sym e j ∷ []) [])))
  where
    by : (b : Bool) → cond b (lower_than_found (lowest (filter t (take i xs))) x) (lowest (filter t (take i xs))) ≡ lowest (filter t (take i xs) ++ cond b (x ∷ []) [])
    by true = sym (lowest-push (filter t (take i xs)) x)
    by false = ap lowest (sym (append-nil (filter t (take i xs))))

not_there : {T : Type 0} (x : T) → Some x ≡ None → ⊥
not_there x h = cc

lower_is_some : {A : Type 0} (x : Held A) (o : Option (Held A)) → lower x o ≡ None → ⊥
lower_is_some x None h = not_there x h
lower_is_some {A} x (Some y) h = by (nat_lt y.holder x.holder) h
  where
    by : (b : Bool) → cond b (Some y) (Some x) ≡ None → ⊥
    by true h = not_there y h
    by false h = not_there x h

-- where none is found none passes
pub none_found : {A : Type 0} (t : Held A → Bool) (xs : List (Held A)) → lowest (filter t xs) ≡ None → not (list_any t xs) ≡ true
none_found t [] h = refl
none_found {A} t (x ∷ xs) h = by (t x) h (none_found t xs)
  where
    by : (b : Bool) → lowest (cond b (x ∷ filter t xs) (filter t xs)) ≡ None → (lowest (filter t xs) ≡ None → not (list_any t xs) ≡ true) → not (b || list_any t xs) ≡ true
    by true h more = absurd (lower_is_some x (lowest (filter t xs)) h)
    by false h more = more h
