-- Fronts, as slices are compared.
use Rattle.std.proofs.Common.{◌≡◌, ℕ, ◌<◌, Bool, true, false, cond, List, [], ◌∷◌, length, take, drop, Option, Some, None, refl, arith, ap₂, subst, sym}
use Rattle.std.specs.Prelude.{◌==◌, ◌&&◌, bytes_eq}
use Rattle.std.proofs.lemmas.Bool.{eqb-true}
use Rattle.std.proofs.lemmas.Bool.Decides.{Decides-eqb}
use Rattle.save_sink.specs.Fronts.{behind_front, without_front}

split_by : (t u : Bool) (x : Option (List ℕ)) (left : List ℕ) → x ≡ cond u (Some left) None → cond t x None ≡ cond (t && u) (Some left) None
split_by true u x left e = e
split_by false u x left e = refl

pub behind_front-is : (left a : List ℕ) → behind_front left a ≡ cond (bytes_eq (take (length a) left) a) (Some (drop (length a) left)) None
behind_front-is left [] = refl
behind_front-is [] (x ∷ a) = refl
behind_front-is (l ∷ left) (x ∷ a) = split_by (l == x) (bytes_eq (take (length a) left) a) (behind_front left a) (drop (length a) left) (behind_front-is left a)

no_way : (t : Bool) (x : Option (List ℕ)) → x ≡ None → cond t x None ≡ None
no_way true x e = e
no_way false x e = refl

pub too_long : (left a : List ℕ) → length left < length a → behind_front left a ≡ None
too_long left [] lt = absurd (omega arith)
too_long [] (x ∷ a) lt = refl
too_long (l ∷ left) (x ∷ a) lt = let e = too_long left a (omega arith) in no_way (l == x) (behind_front left a) e

pub ruleset fronts = (behind_front-is, too_long)

-- ---- all that was to come came

empty_is : (left : List ℕ) → Some left ≡ Some [] → left ≡ []
empty_is left e = cc

chosen : (t : Bool) (x : Option (List ℕ)) → cond t x None ≡ Some [] → (t ≡ true) × (x ≡ Some [])
chosen true x e = (refl, e)
chosen false x e = absurd cc

pub all_came : (left a : List ℕ) → behind_front left a ≡ Some [] → left ≡ a
all_came left [] e = empty_is left e
all_came [] (x ∷ a) e = absurd cc
all_came (l ∷ left) (x ∷ a) e =
    let p = chosen (l == x) (behind_front left a) e in
    ap₂ (λ (b : ℕ) (bs : List ℕ). b ∷ bs) (eqb-true l x p.0) (all_came left a p.1)

all_comes : (a : List ℕ) → behind_front a a ≡ Some []
all_comes [] = refl
all_comes (x ∷ a) = let same : (x == x) ≡ true = (Decides-eqb x x).1 refl in rw same (all_comes a)

pub whole_by : (bytes a : List ℕ) → bytes ≡ a → without_front (Some bytes) a ≡ Some []
whole_by bytes a e = subst (λ (b : List ℕ). behind_front b a ≡ Some []) (sym e) (all_comes a)

-- for one who wrote a text against bytes: they are that text exactly where nothing is still to come
pub ruleset whole = (all_came, whole_by)
