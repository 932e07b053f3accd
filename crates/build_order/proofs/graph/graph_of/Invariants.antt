use Rattle.std.proofs.Common.{map, take}
use Rattle.build_order.specs.Inside.Rows.{AreRows}
use Rattle.build_order.proofs.graph.graph_of.Given as goal

abbrev pub invariant-loop-project : goal.invariant-loop-project
invariant-loop-project l = AreRows (map (λ p. (p.0, p.1.items)) (take l.project-index l.projects)) l.names l.graph
