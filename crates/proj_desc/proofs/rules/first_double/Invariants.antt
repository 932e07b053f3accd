use Rattle.std.proofs.Common.{◌≡◌, length}
use Rattle.proj_desc.specs.Causes.{first_double}
use Rattle.proj_desc.proofs.rules.first_double.Given as goal

-- what is left decides
abbrev pub invariant-loop-first : goal.invariant-loop-first
invariant-loop-first l = first_double l.rest ≡ first_double l.fn.names

abbrev pub decreases-loop-first : goal.decreases-loop-first
decreases-loop-first l = length l.rest
