use Rattle.std.proofs.Common.{◌≡◌, filter, take}
use Rattle.std.specs.FinMap.{get}
use Rattle.output_commit.specs.Told.{is_problem_of}
use Rattle.output_commit.proofs.telling.problem_ids.Given as goal

abbrev pub invariant-loop-id : goal.invariant-loop-id
invariant-loop-id l = l.found.items ≡ filter (λ id. is_problem_of l.index (get l.marks id)) (take l.id-index l.id-items)
