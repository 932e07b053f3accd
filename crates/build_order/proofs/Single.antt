-- Projects have one order.
use Rattle.std.proofs.Common.{◌≡◌, ◌⊎◌, inl, inr, ℕ, suc, ◌+◌, ◌<◌, List, [], ◌∷◌, ◌++◌, length, refl, sym, ap, ◌∙◌, subst, arith}
use Rattle.std.specs.List.{AllPairs, Contains, filter, flat_map}
use Rattle.std.specs.declared.cmp.Ordering.TheVariants.{Less, Greater}
use Rattle.std.specs.Ordering.{ordering_reverse}
use Rattle.std.specs.Cmp.Lexicographic.{nat_list_cmp_total}
use Rattle.res_path.specs.Paths.{Names}
use Rattle.build_order.specs.Orders.{Projects, IsBefore, AreMutual, IsNext, InOrder, IsOrder, is_knot}
use Rattle.build_order.proofs.Members.{none, cons_cases, at_front, behind}
use Rattle.build_order.proofs.Sorted.{not_before}

one_way : (a b : List ℕ) → IsBefore a b → IsBefore b a → ⊥
one_way a b there back = apart (sym there ∙ nat_list_cmp_total.antisymm a b ∙ ap ordering_reverse back)
  where
    apart : Less ≡ Greater → ⊥
    apart x = cc

first_before : (x : List ℕ) (xs : Names) (n : List ℕ) → AllPairs IsBefore (x ∷ xs) → Contains xs n → IsBefore x n
first_before x xs n rising i = subst (IsBefore x) i.2 (rising 0 (suc i.0) n (omega arith) (omega (arith, i.1)))

others_rise : (x : List ℕ) (xs : Names) → AllPairs IsBefore (x ∷ xs) → AllPairs IsBefore xs
others_rise x xs rising i j d lt le = rising (suc i) (suc j) d (omega (arith, lt)) (omega (arith, le))

-- two lists of the same names in order are the same
same_lists : (xs ys : Names) → AllPairs IsBefore xs → AllPairs IsBefore ys → ((n : List ℕ) → Contains xs n → Contains ys n) → ((n : List ℕ) → Contains ys n → Contains xs n) → xs ≡ ys
same_lists [] [] rx ry on back = refl
same_lists [] (y ∷ ys) rx ry on back = absurd (none y (back y (at_front y ys)))
same_lists (x ∷ xs) [] rx ry on back = absurd (none x (on x (at_front x xs)))
same_lists (x ∷ xs) (y ∷ ys) rx ry on back =
    let others : xs ≡ ys = same_lists xs ys (others_rise x xs rx) (others_rise y ys ry) on_later back_later in
    λ i. first i ∷ others i
  where
    first : x ≡ y
    first = elim (cons_cases y ys x (on x (at_front x xs))) [
      | inl same ↦ sym same
      | inr later ↦ elim (cons_cases x xs y (back y (at_front y ys))) [
        | inl same ↦ same
        | inr too ↦ absurd (one_way x y (first_before x xs y rx too) (first_before y ys x ry later))
      ]
    ]

    on_later : (n : List ℕ) → Contains xs n → Contains ys n
    on_later n i = elim (cons_cases y ys n (on n (behind x xs n i))) [
      | inl same ↦ absurd (not_before x n (first ∙ same) (first_before x xs n rx i))
      | inr j ↦ j
    ]

    back_later : (n : List ℕ) → Contains ys n → Contains xs n
    back_later n i = elim (cons_cases x xs n (back n (behind y ys n i))) [
      | inl same ↦ absurd (not_before y n (sym first ∙ same) (first_before y ys n ry i))
      | inr j ↦ j
    ]

next_same : (ps : Projects) (placed g h : Names) → IsNext ps placed g → IsNext ps placed h → g ≡ h
next_same ps placed g h a b = same_lists g h a.by_name b.by_name
    (λ n i. (b.whole b.first n in_h).1 (subst (λ x. AreMutual ps x n) first ((a.whole a.first n in_g).0 i)))
    (λ n i. (a.whole a.first n in_g).1 (subst (λ x. AreMutual ps x n) (sym first) ((b.whole b.first n in_h).0 i)))
  where
    in_g : Contains g a.first
    in_g = subst (λ xs. Contains xs a.first) (sym a.is) (at_front a.first a.others)

    in_h : Contains h b.first
    in_h = subst (λ xs. Contains xs b.first) (sym b.is) (at_front b.first b.others)

    first : a.first ≡ b.first
    first = elim (a.least b.first (b.ready b.first in_h)) [
      | inl same ↦ same
      | inr before ↦ elim (b.least a.first (a.ready a.first in_g)) [ inl same ↦ sym same | inr too ↦ absurd (one_way a.first b.first before too) ]
    ]

a_member : (ps : Projects) (placed g : Names) → IsNext ps placed g → (n : List ℕ) × Contains g n
a_member ps placed g x = (x.first, subst (λ xs. Contains xs x.first) (sym x.is) (at_front x.first x.others))

groups_same : (ps : Projects) (placed : Names) (gs hs : List Names) → InOrder ps placed gs → InOrder ps placed hs → gs ≡ hs
groups_same ps placed [] [] a b = refl
groups_same ps placed [] (h ∷ hs) a b = let n = a_member ps placed h b.0 in absurd ((b.0.ready n.0 n.1).waits (a n.0 (b.0.ready n.0 n.1).project))
groups_same ps placed (g ∷ gs) [] a b = let n = a_member ps placed g a.0 in absurd ((a.0.ready n.0 n.1).waits (b n.0 (a.0.ready n.0 n.1).project))
groups_same ps placed (g ∷ gs) (h ∷ hs) a b =
    let first : g ≡ h = next_same ps placed g h a.0 b.0 in
    let others : gs ≡ hs = groups_same ps (placed ++ g) gs hs a.1 (subst (λ x. InOrder ps (placed ++ x) hs) (sym first) b.1) in
    λ i. first i ∷ others i

pub only_order : (ps : Projects) (order other : Names) (knots more : List Names) → IsOrder ps order knots → IsOrder ps other more → (order ≡ other) × (knots ≡ more)
only_order ps order other knots more a b =
    let same : a.groups ≡ b.groups = groups_same ps [] a.groups b.groups a.in_order b.in_order in
    (a.placed ∙ ap (flat_map (λ (g : Names). g)) same ∙ sym b.placed, a.tied ∙ ap (filter is_knot) same ∙ sym b.tied)
