use Rattle.std.proofs.Common.{◌≡◌, ◌++◌, take}
use Rattle.op_plan.specs.Inside.Lists.{taken}
use Rattle.op_plan.proofs.edits.Edits.take_all.Given as goal

abbrev pub invariant-loop-path : goal.invariant-loop-path
invariant-loop-path l = l.self ≡ l.initial.self ++ taken (take l.path-index l.path-items)
