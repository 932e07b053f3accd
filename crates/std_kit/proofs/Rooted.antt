-- The files of the roots of a task are all among its inputs.
use Rattle.std.proofs.Common.{◌≡◌, Bool, true, cond, ◌||◌, List, [], ◌∷◌, refl, sym, ap, ◌∙◌}
use Rattle.std.specs.Prelude.{None, filter}
use Rattle.std.specs.FinMap.{entries, entries_sorted, from_sorted, retain_keys, get-entries, get-from_sorted, entries-from_sorted}
use Rattle.std.specs.FinMap.Entries.{is_sorted-where_key, find-where_key}
use Rattle.res_path.specs.Paths.{Names, path_cmp, is_prefix}
use Rattle.res_path.proofs.Prefixes.{path_cmp_exact}
use Rattle.builder_api.specs.Places.{is_within}
use Rattle.builder_api.specs.Files.{Files, files_in}
use Rattle.builder_api.proofs.Maps.{get_kept, same_files}
use Rattle.builder_api.proofs.Places.{or_true}
use Rattle.std_kit.specs.Roots.{files_of_root, rooted}
use Rattle.std_kit.proofs.Runs.{twice}

-- the entries that are kept
pub entries_kept : (f : Files) (test : Names → Bool) → entries (retain_keys f test) ≡ filter (λ e. test e.0) (entries f)
entries_kept f test =
    let sorted = is_sorted-where_key path_cmp test (entries f) (entries_sorted f) in
    ap entries (same_files (retain_keys f test) (from_sorted (filter (λ e. test e.0) (entries f))) (λ q. get_kept f test q ∙ ap (λ x. cond (test q) x None) (get-entries f q)
    ∙ sym (find-where_key path_cmp test q (λ x t. ap test (sym (path_cmp_exact q x t))) (entries f)) ∙ sym (get-from_sorted path_cmp (filter (λ e. test e.0) (entries f)) q sorted)))
    ∙ entries-from_sorted path_cmp (filter (λ e. test e.0) (entries f)) sorted

-- the files of a root that are all kept
root_kept : (root : Names) (f : Files) (test : Names → Bool) → ((q : Names) → is_prefix root q ≡ true → test q ≡ true) → files_of_root root (retain_keys f test) ≡ files_of_root root f
root_kept root f test h = ap (filter (λ e. is_prefix root e.0)) (entries_kept f test) ∙ twice (λ e. is_prefix root e.0) (λ e. test e.0) (λ e. h e.0) (entries f)

all_kept : (roots : List Names) (f : Files) (test : Names → Bool) → ((q : Names) → is_within roots q ≡ true → test q ≡ true) → rooted roots (retain_keys f test) ≡ rooted roots f
all_kept [] f test h = refl
all_kept (root ∷ roots) f test h =
    λ i. (root, root_kept root f test (λ q p. h q (ap (λ b. b || is_within roots q) p)) i) ∷ all_kept roots f test (λ q p. h q (ap (λ b. is_prefix root q || b) p ∙ or_true (is_prefix root q))) i

-- each root has the same files among all files within the roots as among all
pub rooted_in : (roots : List Names) (f : Files) → rooted roots (files_in roots f) ≡ rooted roots f
rooted_in roots f = all_kept roots f (is_within roots) (λ q h. h)
