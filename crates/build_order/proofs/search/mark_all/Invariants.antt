use Rattle.std.proofs.Common.{take}
use Rattle.build_order.specs.Inside.Searches.{AreMarked}
use Rattle.build_order.proofs.search.mark_all.Given as goal

abbrev pub invariant-loop-member : goal.invariant-loop-member
invariant-loop-member l = AreMarked (take l.member-index l.members) l.mark l.fn.marks l.marks
