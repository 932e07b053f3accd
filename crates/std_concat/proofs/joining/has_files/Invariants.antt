use Rattle.std.proofs.Common.{◌≡◌, drop}
use Rattle.std_concat.specs.Concat.{files_of_roots}
use Rattle.std_concat.proofs.joining.has_files.Given as goal

-- all files are those of the roots that are ahead
abbrev pub invariant-loop-root : goal.invariant-loop-root
invariant-loop-root l = files_of_roots (drop l.root-index l.roots) l.view ≡ files_of_roots l.roots l.view
