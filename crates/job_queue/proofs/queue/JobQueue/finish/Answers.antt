use Rattle.std.proofs.Common.{sym, ap, ◌∙◌}
use Rattle.std.specs.FinMap.{get}
use Rattle.job_queue.specs.Queues.{Queue}
use Rattle.job_queue.proofs.Keeping.{one_runs, finish_kept}
use Rattle.job_queue.proofs.queue.JobQueue.finish.Goals as goal

pub overflow_sub-self : goal.overflow_sub-self
overflow_sub-self g c =
    one_runs c.self.inside.jobs c.self.inside.turns c.self.inside.next_number c.self.inside.finished c.self.inside.live c.self.invariant c.args.name.now c.in_ok-job.job.now
    (ap (λ (q : Queue g.row.A.Denot). get q.jobs c.args.name.now) c.self.view_is ∙ c.in_ok-job.ensures.ok)
    (sym c.is_running.ensures ∙ c.in_ok-expect.ensures.ok)

pub invariant_of-self : goal.invariant_of-self
invariant_of-self g c =
    finish_kept c.self.inside.jobs c.self.inside.turns c.self.inside.next_number c.self.inside.finished c.self.inside.live c.self.invariant c.args.name.now c.in_ok-job.job.now
    (ap (λ (q : Queue g.row.A.Denot). get q.jobs c.args.name.now) c.self.view_is ∙ c.in_ok-job.ensures.ok)
    c.end.new.self (sym c.is_running.ensures ∙ c.in_ok-expect.ensures.ok) c.end.ensures
