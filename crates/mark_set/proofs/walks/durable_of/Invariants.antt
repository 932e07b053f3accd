use Rattle.std.proofs.Common.{nat_cmp, take}
use Rattle.std.specs.Map.{keys_of}
use Rattle.std.specs.FinMap as map
use Rattle.mark_set.specs.Markers.{durable_marks}
use Rattle.mark_set.specs.Inside.Builds.{Covers}
use Rattle.mark_set.proofs.walks.durable_of.Given as goal

abbrev pub invariant-loop-i : goal.invariant-loop-i
invariant-loop-i l = Covers (map.get (durable_marks (map.from_entries {R = nat_cmp} l.markers.entries))) (map.from_entries {R = nat_cmp} l.kept.entries) (keys_of (take l.i l.markers.entries))
