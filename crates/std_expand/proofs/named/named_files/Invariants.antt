use Rattle.std.proofs.Common.{◌≡◌, ℕ, List, true, length}
use Rattle.std.specs.List.{list_all}
use Rattle.res_path.specs.Paths.{is_prefix}
use Rattle.std_expand.specs.Expand.{file_named}
use Rattle.std_expand.specs.Inside.Lookups.{found}
use Rattle.std_expand.proofs.Finding.{found_over}
use Rattle.std_expand.proofs.named.named_files.Given as goal

-- all files by name are the rest, over those that are put
abbrev pub invariant-loop-file : goal.invariant-loop-file
invariant-loop-file l =
    (list_all (λ e. is_prefix l.root e.0) l.rest ≡ true)
    × ((n : List ℕ) → found_over l.root l.rest n (found l.named.files.entries n) ≡ file_named l.root l.files n)

abbrev pub decreases-loop-file : goal.decreases-loop-file
decreases-loop-file l = length l.rest
