use Rattle.std.proofs.Common.{◌≢◌, sym, ◌∙◌}
use Rattle.std.specs.FinMap.{empty}
use Rattle.sync_set.proofs.Tables.{put_not_empty, still_not_empty}
use Rattle.sync_set.proofs.syncs.SyncSet.put.Goals as goal

pub invariant_of-self : goal.invariant_of-self
invariant_of-self c =
    let kept : c.deref_mut.result.now ≢ empty = rw c.deref_mut.ensures.value (rw c.in-Some.is at c.self.invariant) in
    still_not_empty c.put.result _ _ _ _ c.put.ensures.ok c.put.ensures.err kept

pub invariant_of-self-in-None : goal.invariant_of-self-in-None
invariant_of-self-in-None c = λ e. put_not_empty _ c.args.partner c.args.bytes (sym c.in_ok-put-in-None.ensures.ok ∙ sym c.in_ok-new-in-None.ensures.ok ∙ e)
