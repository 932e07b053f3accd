use Rattle.phase_run.proofs.Results.{both_of}
use Rattle.phase_run.proofs.Phases.{did_schedule}
use Rattle.phase_run.proofs.phase.schedule_one.Goals as goal

pub returns-clause-done : goal.returns-clause-done
returns-clause-done g c = both_of c.perform.result
    (λ s h. did_schedule c.args.job.now c.args.space.now.core c.perform.new.self.core c.in_ok-event.event c.in_ok-event.ensures c.perform.ensures.opened s h c.requires)
    (λ q. q) c.perform.ensures.state c.perform.ensures.history c.perform.ensures.err
