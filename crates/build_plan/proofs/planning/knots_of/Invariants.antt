use Rattle.std.proofs.Common.{◌≡◌, take}
use Rattle.build_plan.proofs.planning.knots_of.Given as goal

abbrev pub invariant-loop-knot : goal.invariant-loop-knot
invariant-loop-knot l = l.found.items ≡ take l.knot-index l.knots
