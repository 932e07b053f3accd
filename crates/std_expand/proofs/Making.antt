-- What is made, root by root.
use Rattle.std.proofs.Common.{◌≡◌, ℕ, ◌+◌, ◌<◌, false, List, [], ◌∷◌, Option, Some, None, length, drop, get_or, refl, sym, ap, ◌∙◌}
use Rattle.std.specs.List.{list_any}
use Rattle.std.specs.Prelude.{is_some}
use Rattle.std.proofs.lemmas.List.{drop_more}
use Rattle.res_path.specs.Paths.{Names}
use Rattle.builder_api.specs.Files.{Files}
use Rattle.builder_api.proofs.Places.{neither}
use Rattle.builder_api.specs.Meanings.{Made}
use Rattle.std_kit.specs.Roots.{rooted, files_of_root}
use Rattle.std_expand.specs.Expand.{file_named, with_stem, with_sources, with_roots}
use Rattle.std_expand.specs.Sources.{source_stem}

-- the same files by name
pub same_named : (found named : List ℕ → Option (List ℕ)) (root : Names) (files : List (Names × List ℕ)) (before after : Made) → ((n : List ℕ) → found n ≡ named n)
    → after ≡ with_sources found root before files → after ≡ with_sources named root before files
same_named found named root files before after same h = h ∙ (λ i. with_sources (λ n. same n i) root before files)

-- one root more is done
pub more_root : (roots : List Names) (view : Files) (i : ℕ) (root : Names) (files : List (Names × List ℕ)) (before after all : Made) → i < length roots → root ≡ get_or roots i root
    → files ≡ files_of_root root view → after ≡ with_sources (file_named root files) root before files → with_roots before (rooted (drop i roots) view) ≡ all
    → with_roots after (rooted (drop (i + 1) roots) view) ≡ all
more_root roots view i root files before after all within is of_root made rest =
    ap (λ m. with_roots m (rooted (drop (i + 1) roots) view)) (made ∙ ap (λ fs. with_sources (file_named root fs) root before fs) of_root)
    ∙ ap (λ rs. with_roots before (rooted rs view)) (ap (λ r. r ∷ drop (i + 1) roots) is ∙ sym (drop_more roots i root within))
    ∙ rest

-- none of the files counts
pub no_sources : (named : List ℕ → Option (List ℕ)) (root : Names) (m : Made) (files : List (Names × List ℕ)) → list_any (λ e. is_some (source_stem e.0)) files ≡ false → m ≡ with_sources named root m files
no_sources named root m [] h = refl
no_sources named root m (e ∷ es) h =
    let none = neither (is_some (source_stem e.0)) (list_any (λ e. is_some (source_stem e.0)) es) h in
    no_sources named root m es none.1 ∙ ap (λ n. with_sources named root n es) (kept (source_stem e.0) none.0)
  where
    kept : (stem : Option (List ℕ)) → is_some stem ≡ false → m ≡ with_stem named root m e stem
    kept None h = refl
    kept (Some stem) h = cc
