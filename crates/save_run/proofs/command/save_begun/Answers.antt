use Rattle.save_run.proofs.Courses.{ended, went_or}
use Rattle.save_run.proofs.command.save_begun.Goals as goal

-- the host stays over both calls
pub returns-clause-stays : goal.returns-clause-stays
returns-clause-stays g c = g.H.Host.stays_on _ _ _ c.went.ensures.stays c.finish.ensures.stays

pub returns-clause-ended : goal.returns-clause-ended
returns-clause-ended g c = ended c.args.kind c.twice-outcome.result.0 c.twice-outcome.result.1 _ _ _ _ c.twice-outcome.ensures.same
    (went_or c.args.kind c.went.result c.twice-outcome.result.0 _ _ _ c.twice-outcome.ensures.answer c.went.ensures.went) c.finish.ensures.ended
