-- How many jobs pass a test, where one is put.
use Rattle.std.proofs.Common.{◌≡◌, ℕ, suc, ◌+◌, ◌≤◌, Bool, true, false, cond, ◌&&◌, List, [], ◌∷◌, length, refl, sym, ap, ◌∙◌, arith}
use Rattle.std.specs.Prelude.{Option, Some, None, T, filter}
use Rattle.std.specs.Cmp.{IsTotalOrder}
use Rattle.std.specs.Ordering.{is_eq, is_lt}
use Rattle.std.specs.declared.cmp.Ordering.{Ordering}
use Rattle.std.specs.declared.cmp.Ordering.TheVariants.{Less, Equal, Greater}
use Rattle.std.specs.FinMap.{FinMap, get, get-entries, insert, entries, entries_sorted, entries-insert, find, put, is_sorted}
use Rattle.std.specs.FinMap.Entries.{below_all, by_order}

first : (a b : Bool) → T (a && b) → T a
first true b p = tt
first false b p = absurd p

second : (a b : Bool) → T (a && b) → T b
second true b p = p
second false b p = absurd p

less : (o : Ordering) → T (is_lt o) → o ≡ Less
less Less p = refl
less Equal p = absurd p
less Greater p = absurd p

abbrev pub bit : Bool → ℕ
bit true = 1
bit false = 0

abbrev pub bit_at : {X : Type 0} → (X → Bool) → Option X → ℕ
bit_at p None = 0
bit_at p (Some x) = bit (p x)

module _ {K X : Type 0} (p : X → Bool) where
  count : List (K × X) → ℕ
  count es = length (filter (λ e. p e.1) es)

  count_one : (e : K × X) (es : List (K × X)) → count (e ∷ es) ≡ bit (p e.1) + count es
  unfolding count
  count_one e es = by (p e.1)
    where
      by : (b : Bool) → length (cond b (e ∷ filter (λ e. p e.1) es) (filter (λ e. p e.1) es)) ≡ bit b + length (filter (λ e. p e.1) es)
      by true = one (length (filter (λ e. p e.1) es))
        where
          one : (n : ℕ) → suc n ≡ 1 + n
          one n = omega arith
      by false = none (length (filter (λ e. p e.1) es))
        where
          none : (n : ℕ) → n ≡ 0 + n
          none n = omega arith

  module _ {R : K → K → Ordering} (o : IsTotalOrder R) (k : K) (v : X) where
    not_above : (x : K) (es : List (K × X)) → R k x ≡ Less → T (below_all R x es) → find R k es ≡ None
    not_above x [] h b = refl
    not_above x (e ∷ es) h b =
        let under = o.trans k x e.0 h (less _ (first _ _ b)) in
        ap (λ r. cond (is_eq r) (Some e.1) (find R k es)) under ∙ not_above x es h (second _ _ b)

    count_put : (es : List (K × X)) → T (is_sorted R es) → count (put R k v es) + bit_at p (find R k es) ≡ count es + bit (p v)
    unfolding count
    count_put [] s = ap (λ n. n + 0) (count_one (k, v) []) ∙ plain (bit (p v))
      where
        plain : (n : ℕ) → (n + 0) + 0 ≡ 0 + n
        plain n = omega arith
    count_put (e ∷ es) s = by (R k e.0) refl (count_put es (second _ _ s))
      where
        front : (n m : ℕ) → (n + m) + 0 ≡ m + n
        front n m = omega arith

        change : (a b c : ℕ) → (a + c) + b ≡ (b + c) + a
        change a b c = omega arith

        later : (a b c d e : ℕ) → a + b ≡ c + d → (e + a) + b ≡ (e + c) + d
        later a b c d e h = omega arith

        by : (r : Ordering) → R k e.0 ≡ r → count (put R k v es) + bit_at p (find R k es) ≡ count es + bit (p v)
            → count (by_order r ((k, v) ∷ e ∷ es) ((e.0, v) ∷ es) (e ∷ put R k v es)) + bit_at p (cond (is_eq r) (Some e.1) (find R k es)) ≡ count (e ∷ es) + bit (p v)
        by Less h rest =
            ap (λ f. count ((k, v) ∷ e ∷ es) + bit_at p f) (not_above e.0 es h (first _ _ s))
            ∙ ap (λ n. n + 0) (count_one (k, v) (e ∷ es)) ∙ front (bit (p v)) (count (e ∷ es))
        by Equal h rest =
            ap (λ n. n + bit (p e.1)) (count_one (e.0, v) es) ∙ change (bit (p v)) (bit (p e.1)) (count es)
            ∙ ap (λ n. n + bit (p v)) (sym (count_one e es))
        by Greater h rest =
            ap (λ n. n + bit_at p (find R k es)) (count_one e (put R k v es))
            ∙ later (count (put R k v es)) (bit_at p (find R k es)) (count es) (bit (p v)) (bit (p e.1)) rest
            ∙ ap (λ n. n + bit (p v)) (sym (count_one e es))

    -- one less where the one that was there passed, and one more where the new one passes
    pub count_insert : (m : FinMap R X) → length (filter (λ e. p e.1) (entries (insert m k v))) + bit_at p (get m k) ≡ length (filter (λ e. p e.1) (entries m)) + bit (p v)
    unfolding count
    count_insert m =
        (λ i. length (filter (λ e. p e.1) (entries-insert o m k v i)) + bit_at p (get-entries m k i)) ∙ count_put (entries m) (entries_sorted m)

no_more : (n m : ℕ) → n ≤ m → n ≤ suc m
no_more n m h = omega arith

both_more : (n m : ℕ) → n ≤ m → suc n ≤ suc m
both_more n m h = omega arith

-- where one test passes the other does: at most as many pass it
pub fewer_pass : {K X : Type 0} (p q : X → Bool) → ((x : X) → p x ≡ true → q x ≡ true) → (es : List (K × X)) → length (filter (λ e. p e.1) es) ≤ length (filter (λ e. q e.1) es)
fewer_pass p q h [] = omega arith
fewer_pass {K} {X} p q h (e ∷ es) = by (p e.1) refl (q e.1) refl (fewer_pass p q h es)
  where
    differ : true ≡ false → ⊥
    differ h = cc

    by : (b : Bool) → p e.1 ≡ b → (c : Bool) → q e.1 ≡ c → length (filter (λ e. p e.1) es) ≤ length (filter (λ e. q e.1) es)
        → length (cond b (e ∷ filter (λ e. p e.1) es) (filter (λ e. p e.1) es)) ≤ length (cond c (e ∷ filter (λ e. q e.1) es) (filter (λ e. q e.1) es))
    by true i true j rest = both_more _ _ rest
    by true i false j rest = absurd (differ (sym (h e.1 i) ∙ j))
    by false i true j rest = no_more _ _ rest
    by false i false j rest = rest
