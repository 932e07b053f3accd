use Rattle.save_round.proofs.Called.{named_at}
use Rattle.save_round.proofs.round.fault_of.Goals as goal

pub returns-in-Ok : goal.returns-in-Ok
returns-in-Ok g c = (c.in-Failed.is, named_at g.P.Participant.tells c.args.all.now c.args.stop.place c.index-all-stop.result c.in-Ok.name c.requires c.index-all-stop.is c.in-Ok.ensures)
