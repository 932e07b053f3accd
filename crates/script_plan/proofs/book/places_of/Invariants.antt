use Rattle.std.proofs.Common.{◌≤◌, length}
use Rattle.script_plan.specs.Inside.Books.{FindsFrom}
use Rattle.script_plan.proofs.book.places_of.Given as goal

abbrev pub invariant-loop-from : goal.invariant-loop-from
invariant-loop-from l = FindsFrom l.from l.places l.jobs × (l.from ≤ length l.jobs)

abbrev pub decreases-loop-from : goal.decreases-loop-from
decreases-loop-from l = l.from
