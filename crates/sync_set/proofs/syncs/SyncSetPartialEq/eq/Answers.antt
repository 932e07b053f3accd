use Rattle.std.proofs.lemmas.Bool.Decides.{same_from_decides}
use Rattle.sync_set.specs.Syncs.{same_syncs, same_syncs-Decides}
use Rattle.sync_set.proofs.syncs.SyncSetPartialEq.eq.Goals as goal

pub returns-clause-value : goal.returns-clause-value
returns-clause-value c = same_from_decides c.is_same.result (same_syncs c.args.self.now c.args.other.now) c.is_same.ensures (same_syncs-Decides c.args.self.now c.args.other.now)
