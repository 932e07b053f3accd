use Rattle.std.proofs.Common.{refl}
use Rattle.phase_pool.specs.Workers.{hand}
use Rattle.phase_pool.proofs.Meetings.{has_seen}
use Rattle.phase_pool.proofs.meeting.tell.Goals as goal

pub returns-clause-worker : goal.returns-clause-worker
returns-clause-worker g c = has_seen (g.H.Host.knows c.args.first.now) (hand g.H.Host.knows c.args.worker.now) _ c.requires.begins c.meet.ensures.meets refl
