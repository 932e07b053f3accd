use Rattle.std.proofs.Common.{map, arith}
use Rattle.save_round.proofs.Called.{same_count}
use Rattle.save_round.proofs.Restored.{restored_none, restored_next, restored_all, restoring_stopped}
use Rattle.save_round.proofs.restoring.restore.Goals as goal

pub loop-at-init : goal.loop-at-init
loop-at-init g c = restored_none c.args.kept.now (map g.P.Participant.tells c.args.all.now.items)

pub restore_at-requires : goal.restore_at-requires
restore_at-requires g c =
    omega (arith, c.loop-at-test.true, c.len-at-end.ensures, c.args.all.now.ok.0, same_count g.P.Participant.tells _ c.args.all.now.items c.loop-at.all.items c.loop-at.invariant)

pub returns-in-Err-clause-stopped : goal.returns-in-Err-clause-stopped
returns-in-Err-clause-stopped g c = restoring_stopped c.args.kept.now c.loop-at.at c.in-Err.fault _ _ _ c.loop-at.invariant c.in-Err.ensures.called c.in-Err.ensures.first c.in-Err.ensures.has

pub loop-at-preserved : goal.loop-at-preserved
loop-at-preserved g c = restored_next c.args.kept.now c.loop-at.at _ _ _ c.loop-at.invariant c.in-Ok.ensures.called

pub returns-clause-restored : goal.returns-clause-restored
returns-clause-restored g c =
    restored_all g.P.Participant.tells c.args.kept.now c.loop-at.at c.args.all.now.items c.loop-at.all.items (omega (arith, c.loop-at-test.false, c.len-at-end.ensures, c.args.all.now.ok.0)) c.loop-at.invariant
