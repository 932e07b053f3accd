-- Atoms at their places.
use Rattle.std.proofs.Common.{◌≡◌, ℕ, zero, suc, ◌-◌, ◌<◌, ◌≤◌, List, [], ◌∷◌, ◌++◌, length, take, drop, get_or, refl, sym, ap, ◌∙◌, inl, inr, subst, arith}
use Rattle.std.specs.declared.cmp.Ordering.{Ordering}
use Rattle.std.specs.declared.cmp.Ordering.TheVariants.{Less, Equal, Greater}
use Rattle.std.specs.Ordering.{ordering_reverse}
use Rattle.std.specs.Cmp.{IsTotalOrder}
use Rattle.std.specs.FinMap.{IsAntisymmetric}
use Rattle.std.specs.List.{AllByRecursion, insert}
use Rattle.std.proofs.lemmas.Cmp.{tied_itself}
use Rattle.std.proofs.lemmas.List.{take-append-drop}
use Rattle.std.proofs.Math.Seq.{drop-cons}
use Rattle.std.proofs.lemmas.List.Elements.{All-from_recursion}
use Rattle.sched_rules.specs.Rules.{IsRising, by_order, placed, all_placed}
use Rattle.sched_rules.proofs.Members.{IsIn, each_at}

-- ---- what holds of each

pub each_weaker : {A : Type 0} (P Q : A → Type 0) → ((x : A) → P x → Q x) → (xs : List A) → AllByRecursion P xs → AllByRecursion Q xs
each_weaker P Q f [] h = tt
each_weaker P Q f (x ∷ xs) h = (f x h.0, each_weaker P Q f xs h.1)

pub each_placed : {A : Type 0} (cmp : A → A → Ordering) (P : A → Type 0) (x : A) (xs : List A) → P x → AllByRecursion P xs → AllByRecursion P (placed cmp x xs)
each_placed cmp P x [] p h = (p, tt)
each_placed {A} cmp P x (y ∷ ys) p h = by (cmp x y) (each_placed cmp P x ys p h.1)
  where
    by : (o : Ordering) → AllByRecursion P (placed cmp x ys) → AllByRecursion P (by_order o (x ∷ y ∷ ys) (y ∷ ys) (y ∷ placed cmp x ys))
    by Less more = (p, h)
    by Equal more = h
    by Greater more = (h.0, more)

pub each_all_placed : {A : Type 0} (cmp : A → A → Ordering) (P : A → Type 0) (xs done : List A) → AllByRecursion P xs → AllByRecursion P done → AllByRecursion P (all_placed cmp xs done)
each_all_placed cmp P [] done h g = g
each_all_placed cmp P (x ∷ xs) done h g = each_all_placed cmp P xs (placed cmp x done) h.1 (each_placed cmp P x done h.0 g)

pub all_placed-append : {A : Type 0} (cmp : A → A → Ordering) (xs ys done : List A) → all_placed cmp (xs ++ ys) done ≡ all_placed cmp ys (all_placed cmp xs done)
all_placed-append cmp [] ys done = refl
all_placed-append cmp (x ∷ xs) ys done = all_placed-append cmp xs ys (placed cmp x done)

is_at : {A : Type 0} (d : A) (xs : List A) (n : ℕ) → n < length xs → IsIn (get_or xs n d) xs
is_at d [] n l = absurd (omega arith)
is_at d (y ∷ ys) zero l = inl refl
is_at d (y ∷ ys) (suc n) l = inr (is_at d ys n (omega arith))

-- one more element before those of which it holds
pub each_drop_more : {A : Type 0} (P : A → Type 0) (xs : List A) (n : ℕ) (y : A) → 0 < n → n ≤ length xs → y ≡ get_or xs (n - 1) y → P y → AllByRecursion P (drop n xs) → AllByRecursion P (drop (n - 1) xs)
each_drop_more P xs zero y p l e h g = absurd (omega arith)
each_drop_more P xs (suc n) y p l e h g =
    let inside : n < length xs = omega arith in
    let back : suc n - 1 ≡ n = omega arith in
    let here : y ≡ get_or xs n y = e ∙ ap (λ m. get_or xs m y) back in
    subst (AllByRecursion P) (sym (ap (λ m. drop m xs) back ∙ drop-cons xs n y inside)) (subst P here h, g)

-- ---- where an atom's place is

pub placed_between : {A : Type 0} (cmp : A → A → Ordering) (x : A) (front back : List A) → AllByRecursion (λ y. cmp x y ≡ Greater) front → AllByRecursion (λ y. cmp x y ≡ Less) back → placed cmp x (front ++ back) ≡ front ++ x ∷ back
placed_between cmp x [] [] f g = refl
placed_between cmp x [] (y ∷ back) f g = ap (λ o. by_order o (x ∷ y ∷ back) (y ∷ back) (y ∷ placed cmp x back)) g.0
placed_between cmp x (y ∷ front) back f g =
    ap (λ o. by_order o (x ∷ y ∷ (front ++ back)) (y ∷ (front ++ back)) (y ∷ placed cmp x (front ++ back))) f.0
    ∙ ap (λ more. y ∷ more) (placed_between cmp x front back f.1 g)

module _ {A : Type 0} {cmp : A → A → Ordering} (order : IsTotalOrder cmp) where
  turned : (x y : A) → cmp x y ≡ Greater → cmp y x ≡ Less
  turned x y h = order.antisymm y x ∙ ap ordering_reverse h

  raised : (x y : A) → cmp x y ≡ Less → cmp y x ≡ Greater
  raised x y h = order.antisymm y x ∙ ap ordering_reverse h

  pub placed_rising : (x : A) (xs : List A) → IsRising cmp xs → IsRising cmp (placed cmp x xs)
  placed_rising x [] r = (tt, tt)
  placed_rising x (y ∷ ys) r = by (cmp x y) refl (placed_rising x ys r.1)
    where
      by : (o : Ordering) → cmp x y ≡ o → IsRising cmp (placed cmp x ys) → IsRising cmp (by_order o (x ∷ y ∷ ys) (y ∷ ys) (y ∷ placed cmp x ys))
      by Less e more = ((e, each_weaker (λ z. cmp y z ≡ Less) (λ z. cmp x z ≡ Less) (λ z h. order.trans x y z e h) ys r.0), r)
      by Equal e more = r
      by Greater e more = (each_placed cmp (λ z. cmp y z ≡ Less) x ys (turned x y e) r.0, more)

  pub all_placed_rising : (xs done : List A) → IsRising cmp done → IsRising cmp (all_placed cmp xs done)
  all_placed_rising [] done r = r
  all_placed_rising (x ∷ xs) done r = all_placed_rising xs (placed cmp x done) (placed_rising x done r)

  -- up to an atom that is below x all are
  below_at : (x : A) (xs : List A) (n : ℕ) (d : A) → IsRising cmp xs → n < length xs → cmp x (get_or xs n d) ≡ Greater → AllByRecursion (λ y. cmp x y ≡ Greater) (take (suc n) xs)
  below_at x [] n d r l h = absurd (omega arith)
  below_at x (y ∷ ys) zero d r l h = (h, tt)
  below_at x (y ∷ ys) (suc n) d r l h =
      let inside : n < length ys = omega arith in
      let after : cmp y (get_or ys n d) ≡ Less = All-from_recursion (λ z. cmp y z ≡ Less) ys r.0 n d inside in
      (raised y x (order.trans y (get_or ys n d) x after (turned x (get_or ys n d) h)), below_at x ys n d r.1 inside h)

  pub placed_after : (x : A) (xs : List A) (n : ℕ) (d : A) → IsRising cmp xs → 0 < n → n ≤ length xs → cmp x (get_or xs (n - 1) d) ≡ Greater → AllByRecursion (λ y. cmp x y ≡ Less) (drop n xs) → placed cmp x xs ≡ insert xs n x
  placed_after x xs zero d r p l h g = absurd (omega arith)
  placed_after x xs (suc n) d r p l h g =
      let inside : n < length xs = omega arith in
      let at : suc n - 1 ≡ n = omega arith in
      ap (placed cmp x) (sym (take-append-drop (suc n) xs))
      ∙ placed_between cmp x (take (suc n) xs) (drop (suc n) xs) (below_at x xs n d r inside (ap (λ m. cmp x (get_or xs m d)) (sym at) ∙ h)) g

  -- what is there already stays as it is
  pub placed_there : (x : A) (xs : List A) → IsRising cmp xs → IsIn x xs → placed cmp x xs ≡ xs
  placed_there x [] r i = absurd i
  placed_there x (y ∷ ys) r (inl e) = ap (λ o. by_order o (x ∷ y ∷ ys) (y ∷ ys) (y ∷ placed cmp x ys)) (ap (λ z. cmp z y) e ∙ tied_itself order y)
  placed_there x (y ∷ ys) r (inr i) =
      ap (λ o. by_order o (x ∷ y ∷ ys) (y ∷ ys) (y ∷ placed cmp x ys)) (raised y x (each_at (λ z. cmp y z ≡ Less) x ys r.0 i))
      ∙ ap (λ more. y ∷ more) (placed_there x ys r.1 i)

  pub placed_tied : (x : A) (xs : List A) (n : ℕ) (d : A) → IsAntisymmetric cmp → IsRising cmp xs → n < length xs → cmp x (get_or xs n d) ≡ Equal → placed cmp x xs ≡ xs
  placed_tied x xs n d exact r l h = placed_there x xs r (subst (λ y. IsIn y xs) (sym (exact x (get_or xs n d) h)) (is_at d xs n l))

  pub placed_first : (x : A) (xs : List A) (n : ℕ) → n ≤ 0 → AllByRecursion (λ y. cmp x y ≡ Less) (drop n xs) → placed cmp x xs ≡ x ∷ xs
  placed_first x xs zero l h = placed_between cmp x [] xs tt h
  placed_first x xs (suc n) l h = absurd (omega arith)
