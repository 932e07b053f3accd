use Rattle.phase_pool.proofs.Meetings.{same_hand}
use Rattle.phase_pool.proofs.meeting.collect.Goals as goal

pub returns-clause-worker : goal.returns-clause-worker
returns-clause-worker g c = same_hand (g.H.Host.knows c.args.worker.now.pass) (g.H.Host.knows c.meet.new.other) c.args.worker.now.stopped c.meet.ensures.other
