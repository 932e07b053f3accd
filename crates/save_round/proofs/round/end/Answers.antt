use Rattle.std.proofs.Common.{arith}
use Rattle.save_round.proofs.Places.{each_had}
use Rattle.save_round.proofs.round.end.Goals as goal

pub returns : goal.returns
returns g c = each_had g.P.Participant.tells c.len-to.result _ c.args.all.now.items c.end_before.new.all.items (omega (arith, c.len-to.ensures, c.args.all.now.ok.0)) c.end_before.ensures
