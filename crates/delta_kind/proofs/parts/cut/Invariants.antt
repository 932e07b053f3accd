use Rattle.std.proofs.Common.{◌≡◌, ◌++◌, drop}
use Rattle.delta_kind.specs.Deltas.{cut}
use Rattle.delta_kind.proofs.parts.cut.Given as goal

-- the nodes so far, and those that are kept of what is left
abbrev pub invariant-loop-node : goal.invariant-loop-node
invariant-loop-node l = l.kept.items ++ cut l.prefixes (drop l.node-index l.nodes) ≡ cut l.prefixes l.nodes
