-- What was done outside, one thing after another.
use Rattle.std.proofs.Common.{◌≡◌, List, [], ◌∷◌, ◌++◌, refl, sym, ap, ◌∙◌, subst, append_assoc}
use Rattle.std.specs.List.{flat_map}
use Rattle.builder_api.specs.Told.{Told}
use Rattle.build_run.specs.Books.{Did, WasDone, WereDone}

pub flat_append : {A B : Type 0} (f : A → List B) (xs ys : List A) → flat_map f (xs ++ ys) ≡ flat_map f xs ++ flat_map f ys
flat_append f [] ys = refl
flat_append f (x ∷ xs) ys = ap (λ zs. f x ++ zs) (flat_append f xs ys) ∙ sym (append_assoc (f x) (flat_map f xs) (flat_map f ys))

pub one_done : (d : Did) (old new : List Told) → WasDone d old new → WereDone (d ∷ []) old new
one_done d old new h = (new, h, refl)

pub done_append : (ds es : List Did) (a b c : List Told) → WereDone ds a b → WereDone es b c → WereDone (ds ++ es) a c
done_append [] es a b c h g = subst (λ x. WereDone es x c) h g
done_append (d ∷ ds) es a b c h g = (h.0, h.1, done_append ds es h.0 b c h.2 g)

pub done_joined : {A : Type 0} (f : A → List Did) (xs ys : List A) (a b c : List Told) → WereDone (flat_map f xs) a b → WereDone (flat_map f ys) b c → WereDone (flat_map f (xs ++ ys)) a c
done_joined f xs ys a b c h g = subst (λ ds. WereDone ds a c) (sym (flat_append f xs ys)) (done_append (flat_map f xs) (flat_map f ys) a b c h g)
