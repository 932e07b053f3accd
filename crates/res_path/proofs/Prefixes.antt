-- Prefixes in the order of paths.
use Rattle.std.proofs.Common.{◌≡◌, ℕ, true, false, ◌&&◌, List, [], ◌∷◌, refl, sym, ap, ◌∙◌}
use Rattle.std.specs.declared.cmp.Ordering.{Ordering}
use Rattle.std.specs.declared.cmp.Ordering.TheVariants.{Less, Equal, Greater}
use Rattle.std.specs.Ordering.{nat_cmp, is_gt, ordering_then, ordering_reverse}
use Rattle.std.specs.Cmp.Lexicographic.{slice_cmp, bytes_decides, nat_list_cmp_total}
use Rattle.std.specs.FinMap.{IsAntisymmetric, nat_cmp-IsAntisymmetric, slice_cmp-IsAntisymmetric}
use Rattle.std.specs.Str.{bytes_eq}
use Rattle.std.proofs.lemmas.Cmp.{tied_itself}
use Rattle.res_path.specs.Paths.{Names, path_cmp, is_prefix}
use Rattle.res_path.specs.PathLaws.{path_cmp_total}
use Rattle.res_path.proofs.Spelled.{both}

name_exact : IsAntisymmetric (slice_cmp nat_cmp)
name_exact = slice_cmp-IsAntisymmetric nat_cmp-IsAntisymmetric

-- paths that compare alike are one
pub path_cmp_exact : IsAntisymmetric path_cmp
path_cmp_exact = slice_cmp-IsAntisymmetric name_exact

pub path_itself : (p : Names) → path_cmp p p ≡ Equal
path_itself p = tied_itself path_cmp_total p

name_itself : (n : List ℕ) → slice_cmp nat_cmp n n ≡ Equal
name_itself n = tied_itself nat_list_cmp_total n

same_name : (n m : List ℕ) → bytes_eq n m ≡ true → n ≡ m
same_name n m h = (bytes_decides n m).0 h

never : true ≡ false → ⊥
never h = cc

-- a prefix is not above
pub prefix_le : (p q : Names) → is_prefix p q ≡ true → is_gt (path_cmp p q) ≡ false
prefix_le [] [] h = refl
prefix_le [] (m ∷ q) h = refl
prefix_le (n ∷ p) [] h = cc
prefix_le (n ∷ p) (m ∷ q) h =
    let parts = both (bytes_eq n m) (is_prefix p q) h in
    ap (λ o. is_gt (ordering_then o (path_cmp p q))) (ap (slice_cmp nat_cmp n) (sym (same_name n m parts.0)) ∙ name_itself n) ∙ prefix_le p q parts.1

-- what stands between a path and one below it is below it too
pub prefix_between : (p q r : Names) → is_gt (path_cmp p q) ≡ false → is_gt (path_cmp q r) ≡ false → is_prefix p r ≡ true → is_prefix p q ≡ true
prefix_between [] q r h g f = refl
prefix_between (n ∷ p) [] r h g f = cc
prefix_between (n ∷ p) (m ∷ q) [] h g f = cc
prefix_between (n ∷ p) (m ∷ q) (k ∷ r) h g f =
    let parts = both (bytes_eq n k) (is_prefix p r) f in
    let same = same_name n k parts.0 in
    by same (λ a b. prefix_between p q r a b parts.1) (slice_cmp nat_cmp n m) refl h g
  where
    by : n ≡ k → (is_gt (path_cmp p q) ≡ false → is_gt (path_cmp q r) ≡ false → is_prefix p q ≡ true) → (o : Ordering) → slice_cmp nat_cmp n m ≡ o → is_gt (ordering_then o (path_cmp p q)) ≡ false → is_gt (ordering_then (slice_cmp nat_cmp m k) (path_cmp q r)) ≡ false → (bytes_eq n m && is_prefix p q) ≡ true
    by same next Less e h g =
        let turned : slice_cmp nat_cmp m k ≡ Greater = ap (slice_cmp nat_cmp m) (sym same) ∙ nat_list_cmp_total.antisymm m n ∙ ap ordering_reverse e in
        absurd (never (ap (λ o. is_gt (ordering_then o (path_cmp q r))) (sym turned) ∙ g))
    by same next Greater e h g = cc
    by same next Equal e h g =
        let one : n ≡ m = name_exact n m e in
        let turned : slice_cmp nat_cmp m k ≡ Equal = ap (λ x. slice_cmp nat_cmp x k) (sym one) ∙ ap (slice_cmp nat_cmp n) (sym same) ∙ name_itself n in
        let rest = next h (ap (λ o. is_gt (ordering_then o (path_cmp q r))) (sym turned) ∙ g) in
        ap (λ b. b && is_prefix p q) ((bytes_decides n m).1 one) ∙ rest
