use Rattle.std.proofs.Common.{◌≡◌, length}
use Rattle.mark_set.specs.Causes.{attributes_cause}
use Rattle.mark_set.proofs.causes.attributes_cause.Given as goal

abbrev pub invariant-loop-first : goal.invariant-loop-first
invariant-loop-first l = attributes_cause l.rest ≡ attributes_cause l.fn.attrs

abbrev pub decreases-loop-first : goal.decreases-loop-first
decreases-loop-first l = length l.rest
