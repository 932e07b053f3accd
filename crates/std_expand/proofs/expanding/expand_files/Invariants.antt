use Rattle.std.proofs.Common.{◌≡◌, drop}
use Rattle.std_expand.specs.Expand.{with_sources}
use Rattle.std_expand.specs.Inside.Lookups.{found}
use Rattle.std_expand.proofs.expanding.expand_files.Given as goal

-- what is made so far, with what is made of the files that are ahead
abbrev pub invariant-loop-file : goal.invariant-loop-file
invariant-loop-file l =
    with_sources (found l.named.files.entries) l.root l.made (drop l.file-index l.files) ≡ with_sources (found l.named.files.entries) l.root l.fn.made l.files
