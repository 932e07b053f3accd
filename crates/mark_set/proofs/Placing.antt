-- An entry is put at its place in a list.
use Rattle.std.proofs.Common.{◌≡◌, ℕ, suc, ◌+◌, ◌<◌, ◌≤◌, List, [], ◌∷◌, ◌++◌, length, append_assoc, refl, sym, ap, ◌∙◌, arith}
use Rattle.std.specs.Prelude.{slice_set}
use Rattle.std.specs.declared.cmp.Ordering.{Ordering}
use Rattle.std.specs.declared.cmp.Ordering.TheVariants.{Less, Equal, Greater}
use Rattle.std.specs.FinMap.{IsAntisymmetric, put}
use Rattle.std.specs.FinMap.Entries.{by_order}
use Rattle.std.specs.List.{insert}
use Rattle.std.proofs.Math.Seq.{set-append_seam, take-append_seam, drop-append_seam}
use Rattle.std.proofs.lemmas.List.{length-append}

none_before : (m : ℕ) → 0 + m ≡ m
none_before m = omega arith

module _ {K X : Type 0} (R : K → K → Ordering) (k : K) (es : List (K × X)) where
  -- the place is behind the first n entries, and these are left
  pub record Passed (n : ℕ) (rest : List (K × X)) : Type 0 where
    pub front : List (K × X)
    pub whole : front ++ rest ≡ es
    pub count : length front ≡ n
    pub within : n + length rest ≡ length es
    pub told : (x : X) → put R k x es ≡ front ++ put R k x rest

  pub passed_none : Passed 0 es
  passed_none = record { front = []; whole = refl; count = refl; within = none_before (length es); told = λ x. refl }

  put_first : (e : K × X) (others : List (K × X)) (r : Ordering) (x : X) → R k e.0 ≡ r → put R k x (e ∷ others) ≡ by_order r ((k, x) ∷ e ∷ others) ((e.0, x) ∷ others) (e ∷ put R k x others)
  put_first e others r x h = ap (λ o. by_order o ((k, x) ∷ e ∷ others) ((e.0, x) ∷ others) (e ∷ put R k x others)) h

  pub passed_more : (n : ℕ) (rest : List (K × X)) (e : K × X) (others : List (K × X)) → rest ≡ e ∷ others → R k e.0 ≡ Greater → Passed n rest → Passed (n + 1) others
  passed_more n rest e others is more p = record {
    front = p.front ++ e ∷ [];
    whole = append_assoc p.front (e ∷ []) others ∙ ap (λ l. p.front ++ l) (sym is) ∙ p.whole;
    count = length-append p.front (e ∷ []) ∙ ap (λ m. m + 1) p.count;
    within = one_less n (length rest) (length others) (length es) (ap length is) p.within;
    told = λ x. p.told x ∙ ap (λ l. p.front ++ put R k x l) is ∙ ap (λ l. p.front ++ l) (put_first e others Greater x more)
        ∙ sym (append_assoc p.front (e ∷ []) (put R k x others));
  }
    where
      one_less : (n a b m : ℕ) → a ≡ suc b → n + a ≡ m → n + 1 + b ≡ m
      one_less n a b m h g = omega arith

  pub place_here : IsAntisymmetric R → (n : ℕ) (rest : List (K × X)) (e : K × X) (others : List (K × X)) → rest ≡ e ∷ others → R k e.0 ≡ Equal → Passed n rest
      → (n < length es) × ((x : X) → put R k x es ≡ slice_set es n (k, x))
  place_here same n rest e others is tied p = (
    some n (length rest) (length others) (length es) (ap length is) p.within,
    λ x.
        p.told x ∙ ap (λ l. p.front ++ put R k x l) is ∙ ap (λ l. p.front ++ l) (put_first e others Equal x tied)
        ∙ ap (λ key. p.front ++ (key, x) ∷ others) (sym (same k e.0 tied)) ∙ sym (set-append_seam p.front e others (k, x))
        ∙ (λ i. slice_set (whole i) (p.count i) (k, x)),
  )
    where
      whole : p.front ++ e ∷ others ≡ es
      whole = ap (λ l. p.front ++ l) (sym is) ∙ p.whole

      some : (n a b m : ℕ) → a ≡ suc b → n + a ≡ m → n < m
      some n a b m h g = omega arith

  -- before what is left
  before : (n : ℕ) (rest : List (K × X)) (y : K × X) (p : Passed n rest) → p.front ++ y ∷ rest ≡ insert es n y
  before n rest y p = (λ i. sym (take-append_seam p.front rest) i ++ y ∷ sym (drop-append_seam p.front rest) i) ∙ (λ i. insert (p.whole i) (p.count i) y)

  at_most : (n a m : ℕ) → n + a ≡ m → n ≤ m
  at_most n a m g = omega arith

  pub place_before : (n : ℕ) (rest : List (K × X)) (e : K × X) (others : List (K × X)) → rest ≡ e ∷ others → R k e.0 ≡ Less → Passed n rest
      → (n ≤ length es) × ((x : X) → put R k x es ≡ insert es n (k, x))
  place_before n rest e others is less p = (
    at_most n (length rest) (length es) p.within,
    λ x.
        p.told x ∙ ap (λ l. p.front ++ put R k x l) is ∙ ap (λ l. p.front ++ l) (put_first e others Less x less)
        ∙ ap (λ l. p.front ++ (k, x) ∷ l) (sym is) ∙ before n rest (k, x) p,
  )

  no_more : (l : List (K × X)) → length l ≡ 0 → [] ≡ l
  no_more [] h = refl
  no_more (e ∷ l) h = absurd (omega arith)

  pub place_last : (n : ℕ) (rest : List (K × X)) → length rest ≡ 0 → Passed n rest → (n ≤ length es) × ((x : X) → put R k x es ≡ insert es n (k, x))
  place_last n rest is p = (
    at_most n (length rest) (length es) p.within,
    λ x.
        p.told x ∙ ap (λ l. p.front ++ put R k x l) (sym (no_more rest is)) ∙ ap (λ l. p.front ++ (k, x) ∷ l) (no_more rest is) ∙ before n rest (k, x) p,
  )
