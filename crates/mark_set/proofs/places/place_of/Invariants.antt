use Rattle.std.proofs.Common.{length}
use Rattle.mark_set.specs.Attributes.{text_cmp}
use Rattle.mark_set.proofs.Placing.{Passed}
use Rattle.mark_set.proofs.places.place_of.Given as goal

abbrev pub invariant-loop-first : goal.invariant-loop-first
invariant-loop-first l = Passed text_cmp l.name l.values l.at l.rest

abbrev pub decreases-loop-first : goal.decreases-loop-first
decreases-loop-first l = length l.rest
