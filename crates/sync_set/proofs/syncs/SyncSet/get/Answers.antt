use Rattle.std.proofs.Common.{sym, nat_cmp}
use Rattle.std.specs.FinMap.{get-empty}
use Rattle.sync_set.proofs.syncs.SyncSet.get.Goals as goal

pub returns-in-None : goal.returns-in-None
returns-in-None c = rw (← c.self.view_is, c.in-None.is) (sym (get-empty nat_cmp c.args.partner))
