-- Layers whose marks rise, cut at a mark.
use Rattle.std.proofs.Common.{◌≡◌, ◌<◌, ◌≤◌, ℕ, zero, suc, arith, true, false, nat_lt, rules, List, [], ◌∷◌, ◌++◌, length, slice_index_or, refl, ap, ◌∙◌, sym, subst, nat_eq, if◌then◌else◌}
use Rattle.std.specs.Prelude.{take, drop, Option, Some, None}
use Rattle.std.specs.List.{AllByRecursion, AllWithin}
use Rattle.std.specs.List.Sorted.{IsPartitionedBy, IsNonDecreasingBy}
use Rattle.std.proofs.lemmas.List.Sorted.{IsPartitionedBy-ltb}
use Rattle.elem_tree.specs.declared.layer.Layer.{Layer}
use Rattle.elem_tree.specs.Layers as seen
use Rattle.elem_tree.specs.Layers.{from_mark}
use Rattle.elem_tree.specs.Inside.Shown.{AllBelow, NoneBelow, Rising, IsCut, shown_all, with_current}

module _ {X : Type 0} (P : X → Type 0) where
  all_taken : (i : ℕ) (xs : List X) → i ≤ length xs → ((k : ℕ) (d : X) → k < i → P (slice_index_or xs k d)) → AllByRecursion P (take i xs)
  all_taken zero xs le h = tt
  all_taken (suc i) [] le h = absurd (omega (arith, le))
  all_taken (suc i) (x ∷ xs) le h = (h 0 x (omega arith), all_taken i xs (omega (arith, le)) (λ k d a. h (suc k) d (omega (arith, a))))

  all_dropped : (i : ℕ) (xs : List X) → ((k : ℕ) (d : X) → i ≤ k → k < length xs → P (slice_index_or xs k d)) → AllByRecursion P (drop i xs)
  all_dropped zero [] h = tt
  all_dropped zero (x ∷ xs) h = (h 0 x (omega arith) (omega arith), all_dropped zero xs (λ k d a b. h (suc k) d (omega arith) (omega (arith, b))))
  all_dropped (suc i) [] h = tt
  all_dropped (suc i) (x ∷ xs) h = all_dropped i xs (λ k d a b. h (suc k) d (omega (arith, a)) (omega (arith, b)))

  at_index : (xs : List X) → AllByRecursion P xs → (k : ℕ) (d : X) → k < length xs → P (slice_index_or xs k d)
  at_index [] h k d lt = absurd (omega (arith, lt))
  at_index (x ∷ xs) h zero d lt = h.0
  at_index (x ∷ xs) h (suc k) d lt = at_index xs h.1 k d (omega (arith, lt))

less : (n m : ℕ) → nat_lt n m ≡ true → n < m
less n m h = search (rules, h)

no_less : (n m : ℕ) → nat_lt n m ≡ false → m ≤ n
no_less n m h = search (rules, h)

pub below_before : (m : ℕ) (ls : List Layer) (i : ℕ) → i ≤ length ls → AllWithin (λ l. nat_lt l.mark m ≡ true) ls 0 i → AllBelow m (take i ls)
below_before m ls i le h = all_taken (λ l. l.mark < m) i ls le (λ k d a. less _ m (h k d (omega arith) a))

pub none_below_after : (m : ℕ) (ls : List Layer) (i : ℕ) → AllWithin (λ l. nat_lt l.mark m ≡ false) ls i (length ls) → NoneBelow m (drop i ls)
none_below_after m ls i h = all_dropped (λ l. m ≤ l.mark) i ls (λ k d a b. no_less _ m (h k d a b))

rising_le : (ls : List Layer) → Rising ls → IsNonDecreasingBy (λ l. l.mark) ls
rising_le [] r i j d le lt = absurd (omega (arith, lt))
rising_le (l ∷ ls) r zero zero d le lt = omega arith
rising_le (l ∷ ls) r zero (suc j) d le lt = let a = at_index (λ k. l.mark < k.mark) ls r.0 j d (omega (arith, lt)) in omega (arith, a)
rising_le (l ∷ ls) r (suc i) zero d le lt = absurd (omega (arith, le))
rising_le (l ∷ ls) r (suc i) (suc j) d le lt = rising_le ls r.1 i j d (omega (arith, le)) (omega (arith, lt))

pub rising_parted : (m : ℕ) (ls : List Layer) → Rising ls → IsPartitionedBy (λ l. nat_lt l.mark m) ls
rising_parted m ls r = IsPartitionedBy-ltb (λ l. l.mark) ls m (rising_le ls r)

pub cut_parts : {X : Type 0} (i : ℕ) (xs : List X) → xs ≡ take i xs ++ drop i xs
cut_parts zero [] = refl
cut_parts zero (x ∷ xs) = refl
cut_parts (suc i) [] = refl
cut_parts (suc i) (x ∷ xs) = ap (λ ys. x ∷ ys) (cut_parts i xs)

-- ---- the layers from a mark on

not_equal : (n k : ℕ) → (n ≡ k → ⊥) → nat_eq n k ≡ false
not_equal n k h = elim (nat_eq n k) as (λ b. nat_eq n k ≡ b → b ≡ false) [
  | true ↦ λ e. absurd (h (same_number n k e))
  | false ↦ λ e. refl
] refl
  where
    same_number : (n k : ℕ) → nat_eq n k ≡ true → n ≡ k
    same_number n k h = search (rules, h)

skips : (m : ℕ) (front ls : List Layer) → AllBelow m front → from_mark m (shown_all (front ++ ls)) ≡ from_mark m (shown_all ls)
skips m [] ls h = refl
skips m (l ∷ front) ls h =
    ap (λ b. if b then shown_all (l ∷ front ++ ls) else from_mark m (shown_all (front ++ ls))) (not_equal m l.mark (λ e. omega (arith, e, h.0))) ∙ skips m front ls h.1

none_above : (m n : ℕ) (ls : List Layer) → m < n → AllByRecursion (λ k. n < k.mark) ls → from_mark m (shown_all ls) ≡ []
none_above m n [] lt h = refl
none_above m n (l ∷ ls) lt h =
    let above : n < l.mark = h.0 in
    ap (λ b. if b then shown_all (l ∷ ls) else from_mark m (shown_all ls)) (not_equal m l.mark (λ e. omega (arith, e, above, lt))) ∙ none_above m n ls lt h.1

rising_back : (front ls : List Layer) → Rising (front ++ ls) → Rising ls
rising_back [] ls r = r
rising_back (l ∷ front) ls r = rising_back front ls r.1

current_append : (front rest : List Layer) (k : Option Layer) → with_current (front ++ rest) k ≡ front ++ with_current rest k
current_append front rest None = refl
current_append [] rest (Some l) = refl
current_append (f ∷ front) rest (Some l) = ap (λ xs. f ∷ xs) (current_append front rest (Some l))

pub rising_front : (ls : List Layer) (k : Option Layer) → Rising (with_current ls k) → Rising ls
rising_front ls None r = r
rising_front [] (Some l) r = tt
rising_front (j ∷ ls) (Some l) r = (front_of ls r.0, rising_front ls (Some l) r.1)
  where
    front_of : (xs : List Layer) → AllByRecursion (λ k. j.mark < k.mark) (xs ++ l ∷ []) → AllByRecursion (λ k. j.mark < k.mark) xs
    front_of [] h = tt
    front_of (x ∷ xs) h = (h.0, front_of xs h.1)

-- what holds of no layers, and of those that the cut leaves, holds of those from the mark on
pub from_cut : (P : List seen.Layer → Type 0) (m : ℕ) (ls rest : List Layer) (k : Option Layer) → IsCut m ls rest → Rising (with_current ls k)
    → P [] → P (shown_all (with_current rest k)) → P (from_mark m (shown_all (with_current ls k)))
from_cut P m ls rest k cut rising none left =
    subst P (sym (ap (λ xs. from_mark m (shown_all xs)) (ap (λ xs. with_current xs k) cut.1 ∙ current_append cut.0 rest k) ∙ skips m cut.0 (with_current rest k) cut.2))
    (by rest k cut.3 (rising_back cut.0 (with_current rest k) (subst Rising (ap (λ xs. with_current xs k) cut.1 ∙ current_append cut.0 rest k) rising)) left)
  where
    at_head : (l : Layer) (xs : List Layer) → (nat_eq m l.mark ≡ false → from_mark m (shown_all xs) ≡ []) → P (shown_all (l ∷ xs)) → P (from_mark m (shown_all (l ∷ xs)))
    at_head l xs gone h = elim (nat_eq m l.mark) as (λ b. nat_eq m l.mark ≡ b → P (if b then shown_all (l ∷ xs) else from_mark m (shown_all xs))) [
      | true ↦ λ e. h
      | false ↦ λ e. subst P (sym (gone e)) none
    ] refl

    unequal : (n : ℕ) → nat_eq m n ≡ false → m ≡ n → ⊥
    unequal n h e = no (sym h ∙ ap (nat_eq m) (sym e) ∙ itself m)
      where
        itself : (n : ℕ) → nat_eq n n ≡ true
        itself n = search rules

        no : false ≡ true → ⊥
        no h = cc

    greater : (n : ℕ) → m ≤ n → (m ≡ n → ⊥) → m < n
    greater n le ne = elim (nat_lt m n) as (λ b. nat_lt m n ≡ b → m < n) [
      | true ↦ λ e. less m n e
      | false ↦ λ e. absurd (ne (omega (arith, no_less m n e, le)))
    ] refl

    by : (rest : List Layer) (k : Option Layer) → NoneBelow m rest → Rising (with_current rest k) → P (shown_all (with_current rest k)) → P (from_mark m (shown_all (with_current rest k)))
    by [] None nb r h = none
    by [] (Some l) nb r h = at_head l [] (λ e. refl) h
    by (x ∷ xs) None nb r h = at_head x xs (λ e. none_above m x.mark xs (greater x.mark nb.0 (unequal x.mark e)) r.0) h
    by (x ∷ xs) (Some l) nb r h = at_head x (xs ++ l ∷ []) (λ e. none_above m x.mark (xs ++ l ∷ []) (greater x.mark nb.0 (unequal x.mark e)) r.0) h
