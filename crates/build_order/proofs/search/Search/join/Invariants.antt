use Rattle.std.proofs.Common.{vec_len}
use Rattle.build_order.specs.Inside.Searches.{Joins}
use Rattle.build_order.proofs.search.Search.join.Given as goal

abbrev pub invariant-loop-frame : goal.invariant-loop-frame
invariant-loop-frame l = Joins l.at l.fn.self l.self

abbrev pub decreases-loop-frame : goal.decreases-loop-frame
decreases-loop-frame l = vec_len l.self.frames
