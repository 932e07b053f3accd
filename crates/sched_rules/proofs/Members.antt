-- Which elements a list has, and what a test says of one of them or of each.
use Rattle.std.proofs.Common.{◌≡◌, Bool, true, false, ◌&&◌, ◌||◌, ◌⊎◌, List, [], ◌∷◌, refl, sym, ap, ◌∙◌, inl, inr, subst}
use Rattle.std.specs.List.{AllByRecursion, list_any, list_all}
use Rattle.res_path.proofs.Spelled.{both}

abbrev pub IsIn : {A : Type 0} → A → List A → Type 0
IsIn x [] = ⊥
IsIn x (y ∷ ys) = (x ≡ y) ⊎ IsIn x ys

pub any_from : {A : Type 0} (t : A → Bool) (x : A) (xs : List A) → IsIn x xs → t x ≡ true → list_any t xs ≡ true
any_from t x [] i h = absurd i
any_from t x (y ∷ ys) (inl e) h = ap (λ b. b || list_any t ys) (ap t (sym e) ∙ h)
any_from t x (y ∷ ys) (inr i) h = by (t y) (any_from t x ys i h)
  where
    by : (b : Bool) → list_any t ys ≡ true → (b || list_any t ys) ≡ true
    by true g = refl
    by false g = g

pub any_at : {A : Type 0} (t : A → Bool) (xs : List A) → list_any t xs ≡ true → (x : A) × IsIn x xs × (t x ≡ true)
any_at t [] h = cc
any_at {A} t (y ∷ ys) h = by (t y) refl (any_at t ys)
  where
    by : (b : Bool) → t y ≡ b → (list_any t ys ≡ true → (x : A) × IsIn x ys × (t x ≡ true)) → (x : A) × IsIn x (y ∷ ys) × (t x ≡ true)
    by true e more = (y, inl refl, e)
    by false e more =
        let found = more (ap (λ b. b || list_any t ys) (sym e) ∙ h) in
        (found.0, inr found.1, found.2)

pub all_from : {A : Type 0} (t : A → Bool) (xs : List A) → ((x : A) → IsIn x xs → t x ≡ true) → list_all t xs ≡ true
all_from t [] h = refl
all_from t (y ∷ ys) h = ap (λ b. b && list_all t ys) (h y (inl refl)) ∙ all_from t ys (λ x i. h x (inr i))

pub all_at : {A : Type 0} (t : A → Bool) (x : A) (xs : List A) → list_all t xs ≡ true → IsIn x xs → t x ≡ true
all_at t x [] h i = absurd i
all_at t x (y ∷ ys) h (inl e) = let parts = both (t y) (list_all t ys) h in ap t e ∙ parts.0
all_at t x (y ∷ ys) h (inr i) = let parts = both (t y) (list_all t ys) h in all_at t x ys parts.1 i

pub each_at : {A : Type 0} (P : A → Type 0) (x : A) (xs : List A) → AllByRecursion P xs → IsIn x xs → P x
each_at P x [] h i = absurd i
each_at P x (y ∷ ys) h (inl e) = subst P (sym e) h.0
each_at P x (y ∷ ys) h (inr i) = each_at P x ys h.1 i

pub each_from : {A : Type 0} (P : A → Type 0) (xs : List A) → ((x : A) → IsIn x xs → P x) → AllByRecursion P xs
each_from P [] h = tt
each_from P (y ∷ ys) h = (h y (inl refl), each_from P ys (λ x i. h x (inr i)))
