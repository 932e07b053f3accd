use Rattle.std.proofs.Common.{◌≡◌, ◌++◌}
use Rattle.ws_lasting.specs.Inside.{paths_of, transient_paths}
use Rattle.ws_lasting.proofs.trees.transient_paths.Given as goal

-- what was found, and what is left to find
abbrev pub invariant-loop-path : goal.invariant-loop-path
invariant-loop-path l = l.paths.items ++ paths_of l.path-iterator ≡ transient_paths l.tree.map
