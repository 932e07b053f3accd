use Rattle.std.proofs.Common.{◌≡◌, ◌++◌, drop}
use Rattle.std_concat.specs.Concat.{joined, files_of_roots}
use Rattle.std_concat.proofs.joining.add_roots.Given as goal

-- the bytes so far, and those of the files of the roots that are ahead
abbrev pub invariant-loop-root : goal.invariant-loop-root
invariant-loop-root l = l.bytes.items ++ joined (files_of_roots (drop l.root-index l.roots) l.view) ≡ l.fn.bytes.items ++ joined (files_of_roots l.roots l.view)
