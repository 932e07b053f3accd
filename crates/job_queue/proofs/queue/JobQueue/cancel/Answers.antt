use Rattle.std.proofs.Common.{ap, ◌∙◌}
use Rattle.std.specs.FinMap.{get}
use Rattle.job_queue.specs.Queues.{Queue}
use Rattle.job_queue.proofs.Keeping.{some_live, cancel_kept}
use Rattle.job_queue.proofs.queue.JobQueue.cancel.Goals as goal

pub without-self-inside-requires : goal.without-self-inside-requires
without-self-inside-requires g c =
    some_live c.self.inside.jobs c.self.inside.turns c.self.inside.next_number c.self.inside.finished c.self.inside.live c.self.invariant c.args.name.now c.in_ok-job.job.now
    (ap (λ (q : Queue g.row.A.Denot). get q.jobs c.args.name.now) c.self.view_is ∙ c.in_ok-job.ensures.ok)

pub invariant_of-self : goal.invariant_of-self
invariant_of-self g c =
    cancel_kept c.self.inside.jobs c.self.inside.turns c.self.inside.next_number c.self.inside.finished c.self.inside.live c.self.invariant c.args.name.now c.in_ok-job.job.now
    (ap (λ (q : Queue g.row.A.Denot). get q.jobs c.args.name.now) c.self.view_is ∙ c.in_ok-job.ensures.ok)
    c.end.new.self c.remove.new.self c.without-self-inside.result c.without-self-inside.ensures c.end.ensures c.remove.ensures
