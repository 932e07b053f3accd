-- The files of roots, and their bytes.
use Rattle.std.proofs.Common.{◌≡◌, ◌≢◌, ℕ, ◌+◌, ◌<◌, Bool, true, false, ◌==◌, List, [], ◌∷◌, ◌++◌, length, drop, get_or, refl, sym, ap, ◌∙◌}
use Rattle.std.proofs.lemmas.List.{drop_more}
use Rattle.res_path.specs.Paths.{Names}
use Rattle.builder_api.specs.Files.{Files}
use Rattle.std.specs.FinMap.{empty}
use Rattle.std_kit.specs.Placed.{with_placed}
use Rattle.std_kit.specs.Roots.{files_of_root}
use Rattle.std_kit.proofs.Placing.{placed_first}
use Rattle.std_concat.specs.Concat.{files_of_roots, joined, all_of, all_path}

not_empty : (xs ys zs : List (Names × List ℕ)) (b : Bool) → b ≡ (length xs == 0) → b ≡ false → xs ++ ys ≡ zs → zs ≢ []
not_empty [] ys zs b is h same none = let never : false ≡ true = sym h ∙ is in cc
not_empty (x ∷ xs) ys zs b is h same none = let never : x ∷ (xs ++ ys) ≡ [] = same ∙ none in cc

-- where one root has files, all roots together have
pub some_files : (roots : List Names) (view : Files) (i : ℕ) (root : Names) (b : Bool) → i < length roots → root ≡ get_or roots i root → files_of_roots (drop i roots) view ≡ files_of_roots roots view
    → b ≡ (length (files_of_root root view) == 0) → b ≡ false → files_of_roots roots view ≢ []
some_files roots view i root b within is before has h = not_empty (files_of_root root view) (files_of_roots (drop (i + 1) roots) view) (files_of_roots roots view) b has h
    (ap (λ rs. files_of_roots rs view) (ap (λ r. r ∷ drop (i + 1) roots) is ∙ sym (drop_more roots i root within)) ∙ before)

-- the one file that is placed
pub all_placed : (files : List (Names × List ℕ)) (p : Names) (bytes : List ℕ) (before after : Files) → files ≢ [] → p ≡ all_path → bytes ≡ joined files → before ≡ empty → after ≡ with_placed before p bytes
    → after ≡ (all_of files).files
all_placed [] p bytes before after some at is none done = absurd (some refl)
all_placed (e ∷ es) p bytes before after some at is none done = done ∙ (λ i. with_placed (none i) (at i) (is i)) ∙ placed_first _ [] (joined (e ∷ es))
