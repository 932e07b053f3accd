use Rattle.std.proofs.Common.{sym, subst}
use Rattle.area_store.specs.Kept.{IsKept}
use Rattle.area_store.proofs.Steps.{start_reads}
use Rattle.area_store.proofs.store.AreaStore.into_disk.Goals as goal

pub returns-clause-reads : goal.returns-clause-reads
returns-clause-reads g c first begun kept = start_reads g.D.Disk.may_leave first begun c.self.inside.desk (subst (IsKept g.D.Disk.may_leave first begun) (sym c.self.view_is) kept)
