use Rattle.std.proofs.Common.{true, length, ap, arith}
use Rattle.save_round.proofs.Called.{is_within, same_count}
use Rattle.save_round.proofs.Stops.{preparing_stopped, named_in}
use Rattle.save_round.proofs.round.prepare.Goals as goal

pub end_before-requires : goal.end_before-requires
end_before-requires g c =
    omega (
      arith,
      is_within g.P.Participant.tells c.args.all.now.items c.in-Err.stop.place true c.in-Err.ensures.stopped.first,
      same_count g.P.Participant.tells _ c.args.all.now.items c.prepare_each.new.all.items c.in-Err.ensures.stopped.calls,
    )

pub fault_of-requires : goal.fault_of-requires
fault_of-requires g c =
    omega (
      arith,
      is_within g.P.Participant.tells c.args.all.now.items c.in-Err.stop.place true c.in-Err.ensures.stopped.first,
      same_count g.P.Participant.tells _ c.args.all.now.items c.prepare_each.new.all.items c.in-Err.ensures.stopped.calls,
      same_count g.P.Participant.tells _ c.prepare_each.new.all.items c.end_before.new.all.items c.end_before.ensures,
      ap length c.as_slice.ensures.value,
    )

pub returns-in-Err-clause-stopped : goal.returns-in-Err-clause-stopped
returns-in-Err-clause-stopped g c =
    preparing_stopped c.args.kind c.in-Err.stop _ _ _ _ c.in-Err.ensures.stopped c.end_before.ensures
    (named_in g.P.Participant.tells c.in-Err.stop _ c.end_before.new.all.items c.as_slice.result.now c.as_slice.ensures.value c.fault_of.ensures)
