use Rattle.save_run.proofs.Courses.{went_stored, went_stopped}
use Rattle.save_run.proofs.command.went.Goals as goal

pub returns-in-Ok-clause-went : goal.returns-in-Ok-clause-went
returns-in-Ok-clause-went g c = went_stored c.args.kind _ _ _ _ _ _ c.in-Ok.ensures.gathered (rw c.of.ensures at c.stored.ensures.stored)

pub returns-in-Err-clause-went : goal.returns-in-Err-clause-went
returns-in-Err-clause-went g c = went_stopped c.args.kind c.in-Err.fault _ _ _ _ c.requires.begun c.stopped.ensures c.in-Err.ensures.stopped
