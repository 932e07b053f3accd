use Rattle.std.proofs.Common.{sym, subst}
use Rattle.std.specs.FinMap.{empty}
use Rattle.job_queue.specs.Queues.{Jobs}
use Rattle.job_queue.specs.Inside.Kept.{Turns, IsKept}
use Rattle.job_queue.proofs.Keeping.{empty_kept}
use Rattle.job_queue.proofs.queue.JobQueue.empty.Goals as goal

pub invariant_of-result : goal.invariant_of-result
invariant_of-result g c =
    subst (λ (jobs : Jobs g.row.A.Denot). IsKept jobs c.empty-2.result 0 0 0) (sym c.empty.ensures) (subst (λ (turns : Turns). IsKept {A = g.row.A.Denot} empty turns 0 0 0) (sym c.empty-2.ensures) empty_kept)
