-- Numbers in order, none twice.
use Rattle.std.proofs.Common.{◌≡◌, ◌⊎◌, inl, inr, ℕ, ◌<◌, List, [], ◌∷◌, Option, Some, None, refl, subst, arith}
use Rattle.std.specs.List.{All, Contains}
use Rattle.std.specs.Option.{IfSome}
use Rattle.std.specs.BTreeMap.Range.{IsLtBy}
use Rattle.std.proofs.lemmas.List.Elements.{All-contains}
use Rattle.std.specs.declared.cmp.Ordering.{Ordering}
use Rattle.std.specs.declared.cmp.Ordering.TheVariants.{Less, Equal, Greater}
use Rattle.std.specs.Ordering.{nat_cmp, match_ordering}
use Rattle.std.specs.BTreeSet.{insert_key}
use Rattle.build_order.proofs.Members.{none, cons_cases, only_one, only_one_is, at_front, behind}

same_number : (n m : ℕ) → nat_cmp n m ≡ Equal → n ≡ m
same_number n m e = grind arith

-- what the numbers with n have is n or was there
pub added_only : (ks : List ℕ) (n q : ℕ) → Contains (insert_key nat_cmp ks n) q → (n ≡ q) ⊎ Contains ks q
added_only [] n q h = inl (only_one n q h)
added_only (k ∷ ks) n q h = by (nat_cmp n k) (added_only ks n q) h
  where
    by : (o : Ordering) → (Contains (insert_key nat_cmp ks n) q → (n ≡ q) ⊎ Contains ks q) → Contains (match_ordering o (n ∷ k ∷ ks) (k ∷ ks) (k ∷ insert_key nat_cmp ks n)) q → (n ≡ q) ⊎ Contains (k ∷ ks) q
    by Less more i = cons_cases n (k ∷ ks) q i
    by Equal more i = inr i
    by Greater more i = elim (cons_cases k (insert_key nat_cmp ks n) q i) [
      | inl e ↦ inr (subst (Contains (k ∷ ks)) e (at_front k ks))
      | inr j ↦ elim (more j) [ inl e ↦ inl e | inr there ↦ inr (behind k ks q there) ]
    ]

-- what was there stays
pub added_keeps : (ks : List ℕ) (n q : ℕ) → Contains ks q → Contains (insert_key nat_cmp ks n) q
added_keeps [] n q h = absurd (none q h)
added_keeps (k ∷ ks) n q h = by (nat_cmp n k) (added_keeps ks n q) h
  where
    by : (o : Ordering) → (Contains ks q → Contains (insert_key nat_cmp ks n) q) → Contains (k ∷ ks) q → Contains (match_ordering o (n ∷ k ∷ ks) (k ∷ ks) (k ∷ insert_key nat_cmp ks n)) q
    by Less more i = behind n (k ∷ ks) q i
    by Equal more i = i
    by Greater more i = elim (cons_cases k ks q i) [
      | inl e ↦ subst (Contains (k ∷ insert_key nat_cmp ks n)) e (at_front k (insert_key nat_cmp ks n))
      | inr j ↦ behind k (insert_key nat_cmp ks n) q (more j)
    ]

pub added_is : (ks : List ℕ) (n : ℕ) → Contains (insert_key nat_cmp ks n) n
added_is [] n = only_one_is n
added_is (k ∷ ks) n = by (nat_cmp n k) refl (added_is ks n)
  where
    by : (o : Ordering) → nat_cmp n k ≡ o → Contains (insert_key nat_cmp ks n) n → Contains (match_ordering o (n ∷ k ∷ ks) (k ∷ ks) (k ∷ insert_key nat_cmp ks n)) n
    by Less e more = at_front n (k ∷ ks)
    by Equal e more = subst (λ x. Contains (x ∷ ks) n) (same_number n k e) (at_front n ks)
    by Greater e more = behind k (insert_key nat_cmp ks n) n more

pub all_above : (r : Option ℕ) (keys : List ℕ) → IfSome r (λ n. All (IsLtBy nat_cmp n) keys) → IfSome r (λ n. (m : ℕ) → Contains keys m → n < m)
all_above None keys h = h
all_above (Some n) keys h = λ m i. below n m (All-contains (IsLtBy nat_cmp n) keys m h i)
  where
    below : (n m : ℕ) → nat_cmp n m ≡ Less → n < m
    below n m e = grind arith
