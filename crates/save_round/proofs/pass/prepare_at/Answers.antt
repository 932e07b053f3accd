use Rattle.std.proofs.Common.{true, false}
use Rattle.save_round.proofs.Called.{one_called, one_risen, skip, mark_of}
use Rattle.save_round.proofs.pass.prepare_at.Goals as goal

pub returns-then-is_first-clause-called : goal.returns-then-is_first-clause-called
returns-then-is_first-clause-called g c =
    one_called g.P.Participant.tells _ c.args.all.now.items c.args.at _ c.index_mut.result.now c.requires
    (mark_of g.P.Participant.tells c.args.all.now.items _ c.args.at _ true c.as_slice.ensures.value c.is_first.ensures c.if-is_first.true)
    (rw (← c.index_mut.ensures.value) c.prepare_one.ensures.called)

pub returns-then-is_first-clause-first : goal.returns-then-is_first-clause-first
returns-then-is_first-clause-first g c =
    λ is. mark_of g.P.Participant.tells c.args.all.now.items _ c.args.at _ true c.as_slice.ensures.value c.is_first.ensures c.if-is_first.true

pub returns-then-is_first-clause-failed : goal.returns-then-is_first-clause-failed
returns-then-is_first-clause-failed g c =
    λ is. one_risen g.P.Participant.tells c.args.all.now.items c.args.at _ c.index_mut.result.now c.requires (rw (← c.index_mut.ensures.value) (c.prepare_one.ensures.failed is))

pub returns-else-is_first-clause-called : goal.returns-else-is_first-clause-called
returns-else-is_first-clause-called g c =
    skip _ _ c.args.at (mark_of g.P.Participant.tells c.args.all.now.items _ c.args.at _ false c.as_slice.ensures.value c.is_first.ensures c.if-is_first.false)
