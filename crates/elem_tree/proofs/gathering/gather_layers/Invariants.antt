use Rattle.std.proofs.Common.{length}
use Rattle.elem_tree.proofs.Gathers.{GatheringAll}
use Rattle.elem_tree.proofs.gathering.gather_layers.Given as goal

abbrev pub invariant-loop-first : goal.invariant-loop-first
invariant-loop-first l = GatheringAll l.fn.changes l.fn.layers l.newest.map l.changes l.rest

abbrev pub decreases-loop-first : goal.decreases-loop-first
decreases-loop-first l = length l.rest
