use Rattle.std.proofs.Common.{nat_cmp}
use Rattle.std.specs.FinMap.{from_entries}
use Rattle.mark_set.proofs.Durables.{still_markers}
use Rattle.mark_set.proofs.table.Table.durable.Goals as goal

pub invariant_of-result : goal.invariant_of-result
invariant_of-result c = (rw c.in_ok-markers.ensures (still_markers (from_entries {R = nat_cmp} c.self.inside.markers.entries) c.self.invariant.0), c.in_ok-ids.ensures)
