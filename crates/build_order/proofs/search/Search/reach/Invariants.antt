use Rattle.build_order.specs.Inside.Searches.{work, IsKnown, GoesOn}
use Rattle.build_order.proofs.search.Search.reach.Given as goal

abbrev pub invariant-loop-frame : goal.invariant-loop-frame
invariant-loop-frame l = record { on : GoesOn l.graph l.fn.self l.self; here : IsKnown l.self.marks.items l.number }

abbrev pub decreases-loop-frame : goal.decreases-loop-frame
decreases-loop-frame l = work l.graph l.self
