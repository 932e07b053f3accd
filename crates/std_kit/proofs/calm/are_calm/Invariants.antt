use Rattle.std.proofs.Common.{◌≡◌, length}
use Rattle.std_kit.specs.Inside.Walks.{are_calm}
use Rattle.std_kit.proofs.calm.are_calm.Given as goal

-- the nodes that are ahead tell
abbrev pub invariant-loop-node : goal.invariant-loop-node
invariant-loop-node l = are_calm l.root l.output l.view l.left ≡ are_calm l.root l.output l.view l.nodes

abbrev pub decreases-loop-node : goal.decreases-loop-node
decreases-loop-node l = length l.left
