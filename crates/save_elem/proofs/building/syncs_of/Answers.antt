use Rattle.std.proofs.Common.{map, ap}
use Rattle.std.specs.Cmp.{nat_cmp_total}
use Rattle.std.specs.FinMap.{nat_cmp-IsAntisymmetric}
use Rattle.mark_set.proofs.Maps.{entries-empty}
use Rattle.save_elem.specs.Telling.{told_sync}
use Rattle.save_elem.proofs.Items.{sync_next}
use Rattle.save_elem.proofs.building.syncs_of.Goals as goal

pub loop-first-init : goal.loop-first-init
loop-first-init c = rw c.empty-syncs.ensures (ap (map told_sync) (entries-empty nat_cmp_total nat_cmp-IsAntisymmetric))

pub loop-first-preserved : goal.loop-first-preserved
loop-first-preserved c =
    rw (c.in_ok-set.ensures.ok, c.in_ok-bytes.ensures, c.bytes.ensures)
    (sync_next c.loop-first.syncs c.args.told.now c.loop-first.first-index c.first-item.result c.loop-first.invariant c.loop-first-test.true c.first-item.is c.requires)
