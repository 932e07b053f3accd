-- Fronts of lists.
use Rattle.std.proofs.Common.{length, inl, inr, min, arith, ap, ◌∙◌, ◌≡◌, ◌+◌, ℕ, List, ◌++◌, take, drop, sym}
use Rattle.std.proofs.lemmas.Bool.{cases_lt}
use Rattle.std.proofs.lemmas.List.{take_all, drop_all, drop-drop, take-append-drop}

-- a front that was copied, and what follows it, are the list
pub front_then_rest : (all copied : List ℕ) (at n : ℕ) → take n copied ≡ take n (drop at all)
    → drop at all ≡ take n copied ++ drop (at + n) all
front_then_rest all copied at n is = rw (is, ← drop-drop n at all) (sym (take-append-drop n (drop at all)))

-- from a place past the end there is nothing
drop_min : (all : List ℕ) (at : ℕ) → drop (min (length all) at) all ≡ drop at all
drop_min all at = elim (cases_lt at (length all)) [
  | inl less ↦ let e : min (length all) at ≡ at = omega (arith, less) in ap (λ (k : ℕ). drop k all) e
  | inr more ↦ let e : min (length all) at ≡ length all = omega (arith, more) in ap (λ (k : ℕ). drop k all) e ∙ drop_all (length all) all (omega arith) ∙ sym (drop_all at all more)
]

take_min : (n size : ℕ) (rest : List ℕ) → n ≡ min (length rest) size → take n rest ≡ take size rest
take_min n size rest is = elim (cases_lt size (length rest)) [
  | inl less ↦ let e : n ≡ size = omega (arith, is, less) in ap (λ (k : ℕ). take k rest) e
  | inr more ↦ take_all n rest (omega (arith, is, more)) ∙ sym (take_all size rest more)
]

-- so many of what follows a place, or all
pub front_from : (all rest : List ℕ) (at size n : ℕ) → rest ≡ drop (min (length all) at) all → n ≡ min (length rest) (min size size) → take n rest ≡ take size (drop at all)
front_from all rest at size n is count = take_min n size rest (omega (arith, count)) ∙ ap (take size) (is ∙ drop_min all at)
