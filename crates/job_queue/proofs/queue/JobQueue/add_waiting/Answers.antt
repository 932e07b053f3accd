use Rattle.std.proofs.Common.{sym, ap, refl, ◌∙◌, arith}
use Rattle.std.specs.FinMap.{insert, remove}
use Rattle.job_queue.specs.declared.state.JobState.TheVariants.{Waiting}
use Rattle.job_queue.specs.Inside.Kept.{Turns}
use Rattle.job_queue.specs.Queues.{Queue, schedule_refusal, state_of}
use Rattle.job_queue.proofs.Keeping.{live_fits, waiting_kept, undone, to_both}
use Rattle.job_queue.proofs.queue.JobQueue.add_waiting.Goals as goal

pub overflow_add-self-in-Ok : goal.overflow_add-self-in-Ok
overflow_add-self-in-Ok g c = let few = live_fits c.self.inside.jobs c.self.inside.turns c.self.inside.next_number c.self.inside.finished c.self.inside.live c.self.invariant in omega arith

pub invariant_of-self-in-Ok : goal.invariant_of-self-in-Ok
invariant_of-self-in-Ok g c =
    waiting_kept c.self.inside.jobs c.self.inside.turns c.self.inside.next_number c.self.inside.finished c.self.inside.live c.self.invariant c.args.name
    (ap (λ (q : Queue g.row.A.Denot). schedule_refusal q.next_number (state_of q c.args.name)) c.self.view_is ∙ c.requires.allowed)
    (record { state = Waiting; turn = c.args.turn; rule = c.args.rule }) (c.requires.number ∙ ap (λ (q : Queue g.row.A.Denot). q.next_number) (sym c.self.view_is))
    c.put.new.self c.add.new.self refl refl c.in-Ok.ensures.ok (c.in_ok-add.ensures.ok ∙ ap (insert c.self.inside.turns c.args.turn) c.in_ok-copy.ensures)

pub invariant_of-self-in-Err : goal.invariant_of-self-in-Err
invariant_of-self-in-Err g c =
    to_both c.put.new.self c.self.inside.jobs c.remove.new.self c.self.inside.turns c.self.inside.next_number c.self.inside.finished c.self.inside.live
    c.in-Err.ensures.err
    (c.remove.ensures ∙ ap (λ (t : Turns). remove t c.args.turn) (c.in_ok-add.ensures.ok ∙ ap (insert c.self.inside.turns c.args.turn) c.in_ok-copy.ensures)
    ∙ undone c.self.inside.jobs c.self.inside.turns c.self.inside.next_number c.self.inside.finished c.self.inside.live c.self.invariant c.args.name
    (ap (λ (q : Queue g.row.A.Denot). schedule_refusal q.next_number (state_of q c.args.name)) c.self.view_is ∙ c.requires.allowed)
    (record { state = Waiting; turn = c.args.turn; rule = c.args.rule }) (c.requires.number ∙ ap (λ (q : Queue g.row.A.Denot). q.next_number) (sym c.self.view_is)))
    c.self.invariant
