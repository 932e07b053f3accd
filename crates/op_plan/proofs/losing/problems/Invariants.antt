use Rattle.std.proofs.Common.{◌≡◌, filter, take}
use Rattle.std.specs.FinMap.{get}
use Rattle.op_kind.specs.Problems.{is_problem_from}
use Rattle.op_plan.proofs.losing.problems.Given as goal

abbrev pub invariant-loop-id : goal.invariant-loop-id
invariant-loop-id l = l.found.items ≡ filter (λ id. is_problem_from l.count (get l.marks id)) (take l.id-index l.id-items)
