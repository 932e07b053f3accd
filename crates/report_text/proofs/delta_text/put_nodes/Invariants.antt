use Rattle.std.proofs.Common.{◌≡◌, ◌++◌, take}
use Rattle.report_text.specs.Deltas.{delta_lines}
use Rattle.report_text.proofs.delta_text.put_nodes.Given as goal

-- the lines of the nodes so far
abbrev pub invariant-loop-node : goal.invariant-loop-node
invariant-loop-node l = l.out.items ≡ l.fn.out.items ++ delta_lines (take l.node-index l.nodes)
