use Rattle.std.proofs.Common.{sym, ap, ◌∙◌}
use Rattle.std.specs.FinMap.{get}
use Rattle.job_queue.specs.Queues.{Queue}
use Rattle.job_queue.proofs.Keeping.{start_kept}
use Rattle.job_queue.proofs.queue.JobQueue.begin.Goals as goal

pub invariant_of-self : goal.invariant_of-self
invariant_of-self g c =
    start_kept c.self.inside.jobs c.self.inside.turns c.self.inside.next_number c.self.inside.finished c.self.inside.live c.self.invariant c.args.name.now c.in_ok-job.job.now
    (ap (λ (q : Queue g.row.A.Denot). get q.jobs c.args.name.now) c.self.view_is ∙ c.in_ok-job.ensures.ok)
    c.set_state.new.self c.remove.new.self (sym c.is_waiting.ensures ∙ c.in_ok-expect.ensures.ok) c.set_state.ensures c.remove.ensures
