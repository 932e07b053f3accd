use Rattle.std.proofs.Common.{sym}
use Rattle.sync_set.proofs.Tables.{remove-empty}
use Rattle.sync_set.proofs.syncs.SyncSet.take.Goals as goal

pub returns-in-None : goal.returns-in-None
returns-in-None c = rw (c.take.ensures.after, ← c.self.view_is, ← c.take.ensures.value, c.in-None.is) (sym (remove-empty c.args.partner))
