use Rattle.std.proofs.Common.{◌≡◌, filter, take}
use Rattle.std.specs.FinMap.{get}
use Rattle.mark_set.specs.Markers.{has_type}
use Rattle.mark_set.proofs.marks.MarkSet.by_type.Given as goal

abbrev pub invariant-loop-id : goal.invariant-loop-id
invariant-loop-id l = l.found.items ≡ filter (λ id. has_type l.mark_type (get l.self id)) (take l.id-index l.id-items)
