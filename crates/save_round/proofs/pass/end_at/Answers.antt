use Rattle.std.proofs.Common.{true, false}
use Rattle.save_round.proofs.Called.{one_called, skip, mark_of}
use Rattle.save_round.proofs.pass.end_at.Goals as goal

pub returns-then-is_first : goal.returns-then-is_first
returns-then-is_first g c =
    one_called g.P.Participant.tells _ c.args.all.now.items c.args.at _ c.index_mut.result.now c.requires
    (mark_of g.P.Participant.tells c.args.all.now.items _ c.args.at _ true c.as_slice.ensures.value c.is_first.ensures c.if-is_first.true)
    (rw (← c.index_mut.ensures.value) c.end_one.ensures)

pub returns-else-is_first : goal.returns-else-is_first
returns-else-is_first g c =
    skip _ _ c.args.at (mark_of g.P.Participant.tells c.args.all.now.items _ c.args.at _ false c.as_slice.ensures.value c.is_first.ensures c.if-is_first.false)
