use Rattle.std.proofs.Common.{◌≡◌, ◌++◌, length}
use Rattle.std.specs.Map.{keys_of}
use Rattle.delta_kind.specs.Deltas.{paths_of}
use Rattle.tests_std.proofs.deltas.nodes_of.Given as goal

-- the paths of the nodes so far, and those that are left
abbrev pub invariant-loop-path : goal.invariant-loop-path
invariant-loop-path l = paths_of l.nodes.items ++ keys_of l.left.entries ≡ keys_of l.fn.changes.entries

abbrev pub decreases-loop-path : goal.decreases-loop-path
decreases-loop-path l = length l.left.entries
