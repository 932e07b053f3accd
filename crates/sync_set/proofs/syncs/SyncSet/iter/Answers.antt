use Rattle.std.proofs.Common.{sym, ◌∙◌, ap}
use Rattle.std.specs.FinMap.{entries}
use Rattle.sync_set.proofs.Tables.{entries-empty}
use Rattle.sync_set.proofs.syncs.SyncSet.iter.Goals as goal
use Rattle.sync_set.proofs.syncs.SyncSet.iter.Goals.{in-None, in-Some}

pub returns : goal.returns
returns c = elim c.match-self.branch [
  | in-None w ↦ rw (w.result-is, ← c.self.view_is, w.in-None.is) (sym entries-empty)
  | in-Some w ↦ rw (w.result-is, ← c.self.view_is, w.in-Some.is) (w.iter.ensures ∙ ap entries w.deref.ensures)
]
