use Rattle.std.proofs.Common.{sym, ap, ◌∙◌, arith}
use Rattle.std.specs.FinMap.{get, insert}
use Rattle.job_queue.specs.Queues.{Queue}
use Rattle.job_queue.proofs.Keeping.{live_fits, wake_kept}
use Rattle.job_queue.proofs.queue.JobQueue.wake.Goals as goal

pub overflow_add-self : goal.overflow_add-self
overflow_add-self g c = let few = live_fits c.self.inside.jobs c.self.inside.turns c.self.inside.next_number c.self.inside.finished c.self.inside.live c.self.invariant in omega arith

pub invariant_of-self-2 : goal.invariant_of-self-2
invariant_of-self-2 g c =
    wake_kept c.self.inside.jobs c.self.inside.turns c.self.inside.next_number c.self.inside.finished c.self.inside.live c.self.invariant c.args.name.now c.in_ok-job.job.now
    (ap (λ (q : Queue g.row.A.Denot). get q.jobs c.args.name.now) c.self.view_is ∙ c.in_ok-job.ensures.ok)
    c.set_state.new.self c.add.new.self (sym c.is_sleeping.ensures ∙ c.in_ok-expect.ensures.ok) c.set_state.ensures (c.in_ok-add.ensures.ok ∙ ap (λ m. insert c.self.inside.turns c.in_ok-job.job.now.turn m) c.in_ok-copy.ensures)
