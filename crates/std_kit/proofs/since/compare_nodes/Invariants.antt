use Rattle.std.proofs.Common.{◌≡◌, ◌++◌, take}
use Rattle.std_kit.specs.Inside.Walks.{edits_at_nodes}
use Rattle.std_kit.proofs.since.compare_nodes.Given as goal

-- the edits at the nodes so far
abbrev pub invariant-loop-node : goal.invariant-loop-node
invariant-loop-node l = l.edits.items ≡ l.initial.edits.items ++ edits_at_nodes l.output l.root l.view (take l.node-index l.nodes)
