use Rattle.std.proofs.Common.{◌≡◌, length}
use Rattle.op_kind.specs.Marking.{removed}
use Rattle.output_commit.proofs.telling.remove_all.Given as goal

abbrev pub invariant-loop-id : goal.invariant-loop-id
invariant-loop-id l = removed l.marks l.rest ≡ removed l.initial.marks l.initial.rest

abbrev pub decreases-loop-id : goal.decreases-loop-id
decreases-loop-id l = length l.rest
