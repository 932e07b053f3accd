use Rattle.std.proofs.Common.{◌≡◌, ◌++◌}
use Rattle.std.specs.Vec.Iter.{into_iter_items}
use Rattle.op_plan.specs.Inside.Lists.{put}
use Rattle.op_plan.proofs.edits.Edits.put_all.Given as goal

abbrev pub invariant-loop-path : goal.invariant-loop-path
invariant-loop-path l = l.self ++ put (into_iter_items l.path-iterator) ≡ l.initial.self ++ put (into_iter_items l.initial.path-iterator)
