use Rattle.std.proofs.Common.{sym, nat_cmp, List, ℕ}
use Rattle.std.specs.FinMap.{len-empty}
use Rattle.sync_set.proofs.syncs.SyncSet.len.Goals as goal

pub returns-in-None : goal.returns-in-None
returns-in-None c = rw (← c.self.view_is, c.in-None.is) (sym (len-empty nat_cmp (List ℕ)))
