use Rattle.std.proofs.Common.{take}
use Rattle.build_order.specs.Inside.Rows.{IsAdded}
use Rattle.build_order.proofs.graph.add_all.Given as goal

abbrev pub invariant-loop-name : goal.invariant-loop-name
invariant-loop-name l = IsAdded l.names l.from (take l.name-index l.references) l.fn.graph l.graph
