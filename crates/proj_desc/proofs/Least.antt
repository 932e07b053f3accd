-- The least of some names is found name by name.
use Rattle.std.proofs.Common.{◌≡◌, ◌⊎◌, inl, inr, ℕ, Bool, true, false, cond, ◌&&◌, List, [], ◌∷◌, Some, refl, sym, ap, ◌∙◌, subst, Less, Equal, Greater}
use Rattle.std.specs.declared.cmp.Ordering.{Ordering}
use Rattle.std.specs.Ordering.{nat_cmp, is_le, is_lt, ordering_reverse}
use Rattle.std.specs.Cmp.Lexicographic.{slice_cmp, nat_list_cmp_total}
use Rattle.std.specs.FinMap.{nat_cmp-IsAntisymmetric, slice_cmp-IsAntisymmetric}
use Rattle.std.specs.List.{find}
use Rattle.std.proofs.lemmas.Cmp.{tied_itself}
use Rattle.res_path.proofs.Spelled.{both}
use Rattle.proj_desc.specs.Causes.{is_least, least}
use Rattle.proj_desc.specs.Inside.Lesser.{lesser, least_with, least_by_one}

-- ---- the order of names

-- the first is not above the second
record Le (a b : List ℕ) : Type 0 where
  is : is_le (slice_cmp nat_cmp a b) ≡ true

le_itself : (a : List ℕ) → Le a a
le_itself a = record { is = ap is_le (tied_itself nat_list_cmp_total a) }

tied : (a b : List ℕ) → slice_cmp nat_cmp a b ≡ Equal → a ≡ b
tied a b h = slice_cmp-IsAntisymmetric nat_cmp-IsAntisymmetric a b h

le_through : (a b c : List ℕ) → Le a b → Le b c → Le a c
le_through a b c h g = by (slice_cmp nat_cmp a b) (slice_cmp nat_cmp b c) refl refl h.is g.is
  where
    by : (o w : Ordering) → slice_cmp nat_cmp a b ≡ o → slice_cmp nat_cmp b c ≡ w → is_le o ≡ true → is_le w ≡ true → Le a c
    by Less Less e f h g = record { is = ap is_le (nat_list_cmp_total.trans a b c e f) }
    by Less Equal e f h g = subst (λ (x : List ℕ). Le a x) (tied b c f) (record { is = ap is_le e })
    by Equal w e f h g = subst (λ (x : List ℕ). Le x c) (sym (tied a b e)) (record { is = ap is_le f ∙ g })
    by Greater w e f h g = cc
    by Less Greater e f h g = cc

le_both : (a b : List ℕ) → Le a b → Le b a → a ≡ b
le_both a b h g = by (slice_cmp nat_cmp a b) refl h.is
  where
    by : (o : Ordering) → slice_cmp nat_cmp a b ≡ o → is_le o ≡ true → a ≡ b
    by Less e h = let back : slice_cmp nat_cmp b a ≡ Greater = nat_list_cmp_total.antisymm b a ∙ ap ordering_reverse e in
        let never : false ≡ true = sym (ap is_le back) ∙ g.is in
        cc
    by Equal e h = tied a b e
    by Greater e h = cc

-- ---- the lesser of two

lesser_le : (a b : List ℕ) → Le (lesser a b) a × Le (lesser a b) b
lesser_le a b = by (slice_cmp nat_cmp b a) refl
  where
    by : (o : Ordering) → slice_cmp nat_cmp b a ≡ o → Le (cond (is_lt o) b a) a × Le (cond (is_lt o) b a) b
    by Less e = (record { is = ap is_le e }, le_itself b)
    by Equal e = (le_itself a, record { is = ap is_le (nat_list_cmp_total.antisymm a b ∙ ap ordering_reverse e) })
    by Greater e = (le_itself a, record { is = ap is_le (nat_list_cmp_total.antisymm a b ∙ ap ordering_reverse e) })

chosen : (t : Bool) (a b : List ℕ) → (cond t b a ≡ a) ⊎ (cond t b a ≡ b)
chosen true a b = inr refl
chosen false a b = inl refl

-- ---- the least of some

abbrev In : List ℕ → List (List ℕ) → Type 0
In m [] = ⊥
In m (x ∷ xs) = (m ≡ x) ⊎ In m xs

-- it is one of them, and none of them is below it
record Leads (m : List ℕ) (names : List (List ℕ)) : Type 0 where
  inside : In m names
  below : (x : List ℕ) → In x names → Le m x

one_of : (m name k : List ℕ) (ks : List (List ℕ)) → (lesser name k ≡ name) ⊎ (lesser name k ≡ k) → (m ≡ lesser name k) ⊎ In m ks → In m (name ∷ k ∷ ks)
one_of m name k ks (inl e) (inl f) = inl (f ∙ e)
one_of m name k ks (inr e) (inl f) = inr (inl (f ∙ e))
one_of m name k ks e (inr i) = inr (inr i)

leads : (name : List ℕ) (ks : List (List ℕ)) → Leads (least_with name ks) (name ∷ ks)
leads name [] = record { inside = inl refl; below = only }
  where
    only : (x : List ℕ) → (x ≡ name) ⊎ ⊥ → Le name x
    only x (inl e) = subst (λ (y : List ℕ). Le name y) (sym e) (le_itself name)
    only x (inr n) = absurd n
leads name (k ∷ ks) = more (leads (lesser name k) ks)
  where
    more : Leads (least_with (lesser name k) ks) (lesser name k ∷ ks) → Leads (least_with (lesser name k) ks) (name ∷ k ∷ ks)
    more next = record {
      inside = one_of (least_with (lesser name k) ks) name k ks (chosen (is_lt (slice_cmp nat_cmp k name)) name k) next.inside;
      below = under;
    }
      where
        first : Le (least_with (lesser name k) ks) (lesser name k)
        first = next.below (lesser name k) (inl refl)

        under : (x : List ℕ) → In x (name ∷ k ∷ ks) → Le (least_with (lesser name k) ks) x
        under x (inl e) = subst (λ (y : List ℕ). Le (least_with (lesser name k) ks) y) (sym e) (le_through (least_with (lesser name k) ks) (lesser name k) name first (lesser_le name k).0)
        under x (inr (inl e)) = subst (λ (y : List ℕ). Le (least_with (lesser name k) ks) y) (sym e) (le_through (least_with (lesser name k) ks) (lesser name k) k first (lesser_le name k).1)
        under x (inr (inr i)) = next.below x (inr i)

-- ---- and the first that none is below

all_below : (m : List ℕ) (names : List (List ℕ)) → ((x : List ℕ) → In x names → Le m x) → is_least names m ≡ true
all_below m [] h = refl
all_below m (x ∷ xs) h = (λ i. (h x (inl refl)).is i && all_below m xs (λ y j. h y (inr j)) i)

below_all : (m : List ℕ) (names : List (List ℕ)) → is_least names m ≡ true → (x : List ℕ) → In x names → Le m x
below_all m [] h x i = absurd i
below_all m (y ∷ ys) h x (inl e) = subst (λ (z : List ℕ). Le m z) (sym e) (record { is = (both (is_le (slice_cmp nat_cmp m y)) (is_least ys m) h).0 })
below_all m (y ∷ ys) h x (inr i) = below_all m ys (both (is_le (slice_cmp nat_cmp m y)) (is_least ys m) h).1 x i

-- the only element that passes is found
found : (p : List ℕ → Bool) (m : List ℕ) → p m ≡ true → (xs : List (List ℕ)) → In m xs → ((x : List ℕ) → In x xs → p x ≡ true → x ≡ m) → Some m ≡ find p xs
found p m t [] i only = absurd i
found p m t (x ∷ xs) i only = by (p x) refl i (λ j. found p m t xs j (λ y k. only y (inr k)))
  where
    by : (b : Bool) → p x ≡ b → In m (x ∷ xs) → (In m xs → Some m ≡ find p xs) → Some m ≡ cond b (Some x) (find p xs)
    by true e i next = ap Some (sym (only x (inl refl) e))
    by false e (inl same) next = let never : false ≡ true = sym e ∙ ap p (sym same) ∙ t in cc
    by false e (inr i) next = next i

pub least_is : (names : List (List ℕ)) → least_by_one names ≡ least names
least_is [] = refl
least_is (k ∷ ks) = by (leads k ks)
  where
    by : Leads (least_with k ks) (k ∷ ks) → Some (least_with k ks) ≡ least (k ∷ ks)
    by first = found (is_least (k ∷ ks)) (least_with k ks) (all_below (least_with k ks) (k ∷ ks) first.below) (k ∷ ks) first.inside
        (λ x i t. le_both x (least_with k ks) (below_all x (k ∷ ks) t (least_with k ks) first.inside) (first.below x i))
