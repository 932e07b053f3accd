-- What was not seen before.
use Rattle.std.specs.Prelude.{◌≡◌, ℕ, List, [], ◌∷◌, false, refl}
use Rattle.std.specs.Coded.{Coded, code_by, coded_ℕ}
use Rattle.std.specs.FinMap.{FinMap, contains_key, insert}
use Rattle.std.specs.declared.cmp.Ordering.{Ordering}
use Rattle.std.specs.Ordering.{nat_cmp}
use Rattle.std.specs.Cmp.Lexicographic.{slice_cmp}

-- what was seen
abbrev pub Set : {K : Type 0} → (K → K → Ordering) → Type 0
Set R = FinMap R (Unit {0})

abbrev pub Numbers : Type 0
Numbers = Set nat_cmp

abbrev pub Texts : Type 0
Texts = Set (slice_cmp nat_cmp)

-- none of them was seen before, those before it among them
abbrev pub Fresh : {K : Type 0} {R : K → K → Ordering} → Set R → List K → Type 0
Fresh seen [] = Unit {0}
Fresh seen (n ∷ ns) = (contains_key seen n ≡ false) × Fresh (insert seen n tt) ns

abbrev pub with_all : {K : Type 0} {R : K → K → Ordering} → Set R → List K → Set R
with_all seen [] = seen
with_all seen (n ∷ ns) = with_all (insert seen n tt) ns

-- what tells nothing is stored as 0
abbrev pub coded_unit : Coded (Unit {0})
coded_unit = code_by ℕ coded_ℕ (λ _. 0) (λ _. tt) (λ _. refl)
