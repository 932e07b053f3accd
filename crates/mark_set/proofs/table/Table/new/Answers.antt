use Rattle.std.specs.Cmp.{nat_cmp_total}
use Rattle.std.specs.FinMap.{nat_cmp-IsAntisymmetric}
use Rattle.mark_set.specs.Markers.{IsMarker}
use Rattle.mark_set.proofs.Maps.{all_none}
use Rattle.mark_set.proofs.Orders.{no_ids}
use Rattle.mark_set.proofs.table.Table.new.Goals as goal

pub invariant_of-result : goal.invariant_of-result
invariant_of-result c = rw (c.new.ensures.empty, c.new-2.ensures.empty) (all_none nat_cmp_total nat_cmp-IsAntisymmetric IsMarker, no_ids)
