use Rattle.std.proofs.Common.{sym, ap, refl, ◌∙◌}
use Rattle.job_queue.specs.declared.state.JobState.TheVariants.{Sleeping}
use Rattle.job_queue.specs.Queues.{Queue, schedule_refusal, state_of}
use Rattle.job_queue.proofs.Keeping.{asleep_kept}
use Rattle.job_queue.proofs.queue.JobQueue.add_sleeping.Goals as goal

pub invariant_of-self-2 : goal.invariant_of-self-2
invariant_of-self-2 g c =
    asleep_kept c.self.inside.jobs c.self.inside.turns c.self.inside.next_number c.self.inside.finished c.self.inside.live c.self.invariant c.args.name
    (ap (λ (q : Queue g.row.A.Denot). schedule_refusal q.next_number (state_of q c.args.name)) c.self.view_is ∙ c.requires.allowed)
    (record { state = Sleeping; turn = c.args.turn; rule = c.args.rule }) (c.requires.number ∙ ap (λ (q : Queue g.row.A.Denot). q.next_number) (sym c.self.view_is))
    c.put.new.self refl refl c.in_ok-put.ensures.ok
