use Rattle.std.proofs.Common.{◌≡◌, length}
use Rattle.std.specs.Cmp.Lexicographic.{pointwise}
use Rattle.build_laws.specs.States.{same_input}
use Rattle.build_due.proofs.sameness.are_same_inputs.Given as goal

-- what is left decides
abbrev pub invariant-loop-input : goal.invariant-loop-input
invariant-loop-input l = pointwise same_input l.rest l.left ≡ pointwise same_input l.fn.inputs l.fn.others

abbrev pub decreases-loop-input : goal.decreases-loop-input
decreases-loop-input l = length l.rest
