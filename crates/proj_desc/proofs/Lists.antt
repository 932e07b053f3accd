-- Tests over lists that were made of others.
use Rattle.std.proofs.Common.{◌≡◌, ℕ, zero, suc, ◌<◌, Bool, true, false, ◌&&◌, ◌||◌, List, [], ◌∷◌, length, get_or, map, refl, sym, ap, ◌∙◌, arith}
use Rattle.std.specs.List.{list_all, list_any}

pub list_any-map : {A B : Type 0} (f : B → Bool) (g : A → B) (xs : List A) → list_any (λ x. f (g x)) xs ≡ list_any f (map g xs)
list_any-map f g [] = refl
list_any-map f g (x ∷ xs) = ap (λ b. f (g x) || b) (list_any-map f g xs)

pub list_all-map : {A B : Type 0} (f : B → Bool) (g : A → B) (xs : List A) → list_all (λ x. f (g x)) xs ≡ list_all f (map g xs)
list_all-map f g [] = refl
list_all-map f g (x ∷ xs) = ap (λ b. f (g x) && b) (list_all-map f g xs)

-- where one fails, all do
pub all_false : {A : Type 0} (f : A → Bool) (xs : List A) (i : ℕ) (x : A) → i < length xs → x ≡ get_or xs i x → f x ≡ false → list_all f xs ≡ false
all_false f [] i x h e g = absurd (omega arith)
all_false f (y ∷ ys) zero x h e g = ap (λ b. b && list_all f ys) (ap f (sym e) ∙ g)
all_false f (y ∷ ys) (suc i) x h e g = ap (λ b. f y && b) (all_false f ys i x (omega arith) e g) ∙ never (f y)
  where
    never : (b : Bool) → (b && false) ≡ false
    never true = refl
    never false = refl
