use Rattle.std.proofs.Common.{true, false}
use Rattle.save_round.proofs.Called.{mark_of, skip_any}
use Rattle.save_round.proofs.Restored.{one_has, one_restored}
use Rattle.save_round.proofs.restoring.restore_at.Goals as goal

pub returns-then-is_first-clause-called : goal.returns-then-is_first-clause-called
returns-then-is_first-clause-called g c =
    one_restored g.P.Participant.tells c.args.kept.now _ c.args.all.now.items c.args.at _ c.index_mut.result.now c.requires
    (mark_of g.P.Participant.tells c.args.all.now.items _ c.args.at _ true c.as_slice.ensures.value c.is_first.ensures c.if-is_first.true)
    (rw (← c.index_mut.ensures.value) c.restore_one.ensures.called)

pub returns-then-is_first-clause-has : goal.returns-then-is_first-clause-has
returns-then-is_first-clause-has g c =
    one_has g.P.Participant.tells c.args.kept.now _ c.args.all.now.items c.args.at c.index_mut.result.now c.requires (rw (← c.index_mut.ensures.value) c.restore_one.ensures.has)

pub returns-else-is_first-clause-called : goal.returns-else-is_first-clause-called
returns-else-is_first-clause-called g c =
    skip_any _ _ c.args.at (mark_of g.P.Participant.tells c.args.all.now.items _ c.args.at _ false c.as_slice.ensures.value c.is_first.ensures c.if-is_first.false)
