-- Names in order.
use Rattle.std.proofs.Common.{◌≡◌, inl, inr, ℕ, ◌+◌, ◌<◌, true, List, [], ◌∷◌, length, get_or, refl, sym, ap, ◌∙◌, subst, arith}
use Rattle.std.specs.List.{AllPairs, Contains, HoldsAt}
use Rattle.std.specs.List.Sorted.{IsStrictlySortedBy, IsSortedBy, IsNonDecreasingBy, IsPartitionPoint}
use Rattle.std.specs.declared.cmp.Ordering.{Ordering}
use Rattle.std.specs.declared.cmp.Ordering.TheVariants.{Less, Equal, Greater}
use Rattle.std.specs.Ordering.{nat_cmp, ordering_reverse, ordering_index, is_lt, is_eq}
use Rattle.std.specs.Cmp.Lexicographic.{slice_cmp, nat_list_cmp_total, texts_ties}
use Rattle.std.specs.Str.{bytes_eq}
use Rattle.std.proofs.lemmas.Bool.{cases_lt}
use Rattle.std.proofs.lemmas.List.Kept.{AllPairs-cons}
use Rattle.std.proofs.lemmas.List.Elements.{All-from_recursion}
use Rattle.std.proofs.lemmas.List.Sorted.{searchable_from_sorted}
use Rattle.std.proofs.lemmas.Slice.Eq.{bytes_eq-Decides}
use Rattle.res_path.specs.Paths.{Names}
use Rattle.build_order.specs.Orders.{IsBefore}
use Rattle.build_order.specs.Inside.Rows.{name_at}

pub strictly_pairs : (names : Names) → IsStrictlySortedBy (slice_cmp nat_cmp) names → AllPairs IsBefore names
unfolding IsStrictlySortedBy
strictly_pairs [] h = λ i j d lt le. absurd (omega (arith, le))
strictly_pairs (x ∷ xs) h = AllPairs-cons IsBefore x xs (All-from_recursion (IsBefore x) xs h.0) (strictly_pairs xs h.1)

not_before_itself : (a : List ℕ) → IsBefore a a → ⊥
not_before_itself a e = apart (sym e ∙ nat_list_cmp_total.antisymm a a ∙ ap ordering_reverse e)
  where
    apart : Less ≡ Greater → ⊥
    apart x = cc

pub not_before : (a b : List ℕ) → a ≡ b → IsBefore a b → ⊥
not_before a b e h = not_before_itself b (subst (λ x. IsBefore x b) e h)

equal_itself : (a : List ℕ) → slice_cmp nat_cmp a a ≡ Equal
equal_itself a = by (slice_cmp nat_cmp a a) refl
  where
    by : (o : Ordering) → slice_cmp nat_cmp a a ≡ o → o ≡ Equal
    by Less e = absurd (not_before_itself a e)
    by Equal e = refl
    by Greater e = absurd (let x : Greater ≡ Less = sym e ∙ nat_list_cmp_total.antisymm a a ∙ ap ordering_reverse e in apart x)
      where
        apart : Greater ≡ Less → ⊥
        apart x = cc

pub same_bytes : (a b : List ℕ) → bytes_eq a b ≡ true → a ≡ b
same_bytes a b e = grind (arith, bytes_eq-Decides a b)

pub same_text : (a b : List ℕ) → slice_cmp nat_cmp a b ≡ Equal → a ≡ b
same_text a b e = same_bytes a b (texts_ties a b ∙ ap is_eq e)

-- in order, two places with one name are one
pub same_place : (names : Names) (i j : ℕ) → AllPairs IsBefore names → i < length names → j < length names → name_at names i ≡ name_at names j → i ≡ j
same_place names i j rising li lj e = elim (cases_lt i j) [
  | inl lt ↦ absurd (not_before (name_at names i) (name_at names j) e (rising i j [] lt lj))
  | inr le ↦ elim (cases_lt j i) [
    | inl lt ↦ absurd (not_before (name_at names j) (name_at names i) (sym e) (rising j i [] lt li))
    | inr ge ↦ omega (arith, le, ge)
  ]
]

pub found_at : (names : Names) (name : List ℕ) (i : ℕ) → HoldsAt (λ y. slice_cmp nat_cmp y name ≡ Equal) names i → name_at names i ≡ name
found_at names name i h = same_text (name_at names i) name (h [])

pub not_found : (names : Names) (name : List ℕ) (i : ℕ) → AllPairs IsBefore names
    → (IsNonDecreasingBy (λ y. ordering_index (slice_cmp nat_cmp y name)) names → IsPartitionPoint (λ y. slice_cmp nat_cmp y name ≡ Less) (λ y. slice_cmp nat_cmp y name ≡ Greater) names i)
    → Contains names name → ⊥
not_found names name i rising f h = elim (cases_lt h.0 i) [
  | inl lt ↦ not_before_itself name (subst (λ x. slice_cmp nat_cmp x name ≡ Less) h.2 (point.0 h.0 name (omega arith) lt))
  | inr le ↦ apart (sym (equal_itself name) ∙ subst (λ x. slice_cmp nat_cmp x name ≡ Greater) h.2 (point.1 h.0 name le h.1))
]
  where
    apart : Equal ≡ Greater → ⊥
    apart x = cc

    sorted : IsSortedBy (λ a b. is_lt (slice_cmp nat_cmp a b)) names
    sorted k d low lt = ap is_lt (nat_list_cmp_total.antisymm (get_or names (k + 1) d) (get_or names k d) ∙ ap ordering_reverse (rising k (k + 1) d (omega arith) lt))

    point : IsPartitionPoint (λ y. slice_cmp nat_cmp y name ≡ Less) (λ y. slice_cmp nat_cmp y name ≡ Greater) names i
    point = f (searchable_from_sorted nat_list_cmp_total (λ x. x) names name sorted)
