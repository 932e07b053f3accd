use Rattle.std.proofs.Common.{Ok, Err, refl, ap, arith}
use Rattle.save_round.specs.Told.{Prepared}
use Rattle.save_round.proofs.Called.{same_count}
use Rattle.save_round.proofs.Places.{at_head, next, each_had}
use Rattle.save_round.proofs.Stops.{stopped_at}
use Rattle.save_round.proofs.pass.prepare_each.Goals as goal

pub loop-at-init : goal.loop-at-init
loop-at-init g c = at_head (Prepared c.args.kind (Ok tt)) _

pub prepare_at-requires : goal.prepare_at-requires
prepare_at-requires g c =
    omega (arith, c.loop-at-test.true, c.len-at-end.ensures, c.args.all.now.ok.0, same_count g.P.Participant.tells _ c.args.all.now.items c.loop-at.all.items c.loop-at.invariant)

pub returns-in-Err-clause-stopped : goal.returns-in-Err-clause-stopped
returns-in-Err-clause-stopped g c = stopped_at c.args.kind _ _ _ _ c.loop-at.invariant c.in-Err.ensures.called (c.in-Err.ensures.first refl) (λ is. c.in-Err.ensures.failed (ap Err is))

pub loop-at-preserved : goal.loop-at-preserved
loop-at-preserved g c = next c.loop-at.at _ _ _ _ c.loop-at.invariant c.in-Ok.ensures.called

pub returns-clause-prepared : goal.returns-clause-prepared
returns-clause-prepared g c =
    each_had g.P.Participant.tells c.loop-at.at _ c.args.all.now.items c.loop-at.all.items (omega (arith, c.loop-at-test.false, c.len-at-end.ensures, c.args.all.now.ok.0)) c.loop-at.invariant
