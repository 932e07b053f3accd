-- What is kept for participants of the same names.
use Rattle.std.proofs.Common.{◌≡◌, ℕ, suc, Bool, if◌then◌else◌, List, [], ◌∷◌, get_or, None, not, refl, ap, ap₂, ◌∙◌}
use Rattle.std.specs.List.{list_any}
use Rattle.std.specs.Str.{bytes_eq}
use Rattle.save_round.specs.declared.restoring.KeptState.{KeptState}
use Rattle.save_round.specs.Told.{Call, Told}
use Rattle.save_round.specs.Firsts.{FirstsHad, HadWhere, firsts, firsts_after}
use Rattle.save_round.specs.Restoring.{kept_for_each, kept_under, kept_where, names}
use Rattle.save_round.proofs.Called.{named_kept}

-- ---- names stay through calls

names_kept : (bs : List Bool) (f : ℕ → List Call) (xs ys : List Told) → HadWhere bs f xs ys → names ys ≡ names xs
names_kept [] f [] [] h = refl
names_kept [] f [] (y ∷ ys) h = absurd h
names_kept [] f (x ∷ xs) ys h = absurd h
names_kept (b ∷ bs) f [] ys h = absurd h
names_kept (b ∷ bs) f (x ∷ xs) [] h = absurd h
names_kept (b ∷ bs) f (x ∷ xs) (y ∷ ys) h = ap₂ ◌∷◌ (named_kept (if b then f 0 else []) x y h.0) (names_kept bs (λ k. f (suc k)) xs ys h.1)

pub same_names : (f : ℕ → List Call) (xs ys : List Told) → FirstsHad f xs ys → names ys ≡ names xs
same_names f xs ys h = names_kept (firsts xs) f xs ys h

-- ---- for the same names the same is kept

abbrev rest_of : {A : Type 0} → List A → List A
rest_of [] = []
rest_of (x ∷ xs) = xs

firsts_alike : (before : List (List ℕ)) (xs ys : List Told) → names ys ≡ names xs → firsts_after before ys ≡ firsts_after before xs
firsts_alike before [] [] e = refl
firsts_alike before [] (y ∷ ys) e = let no : y.named ∷ names ys ≡ [] = e in cc
firsts_alike before (x ∷ xs) [] e = let no : [] ≡ x.named ∷ names xs = e in cc
firsts_alike before (x ∷ xs) (y ∷ ys) e = let same : y.named ≡ x.named = ap (λ ns. get_or ns 0 []) e in
    ap (λ name. not (list_any (λ n. bytes_eq n name) before) ∷ firsts_after (name ∷ before) ys) same
    ∙ ap (λ bs. not (list_any (λ n. bytes_eq n x.named) before) ∷ bs) (firsts_alike (x.named ∷ before) xs ys (ap rest_of e))

where_alike : (kept : List KeptState) (bs : List Bool) (xs ys : List Told) → names ys ≡ names xs → kept_where kept bs ys ≡ kept_where kept bs xs
where_alike kept [] xs ys e = refl
where_alike kept (b ∷ bs) [] [] e = refl
where_alike kept (b ∷ bs) [] (y ∷ ys) e = let no : y.named ∷ names ys ≡ [] = e in cc
where_alike kept (b ∷ bs) (x ∷ xs) [] e = let no : [] ≡ x.named ∷ names xs = e in cc
where_alike kept (b ∷ bs) (x ∷ xs) (y ∷ ys) e = let same : y.named ≡ x.named = ap (λ ns. get_or ns 0 []) e in
    ap₂ (λ name ks. (if b then kept_under kept name else None) ∷ ks) same (where_alike kept bs xs ys (ap rest_of e))

pub kept_alike : (kept : List KeptState) (xs ys : List Told) → names ys ≡ names xs → kept_for_each kept ys ≡ kept_for_each kept xs
kept_alike kept xs ys e = ap (λ bs. kept_where kept bs ys) (firsts_alike [] xs ys e) ∙ where_alike kept (firsts xs) xs ys e
