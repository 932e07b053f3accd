use Rattle.std.proofs.Common.{◌≡◌}
use Rattle.ws_turn.specs.Passes.{known, IsOf}
use Rattle.pass_turns.specs.Turns.{knows, CameTo}
use Rattle.pass_turns.proofs.Pairs.{PairsTo}
use Rattle.pass_turns.proofs.meeting.tell_all.Given as goal

-- those before the place were told
abbrev pub invariant-loop-at : goal.invariant-loop-at
invariant-loop-at g l =
    PairsTo (λ p q. IsOf l.lock q.token × CameTo g.S.Logged.by l.fn.token.seat.me.0.seen (knows p) (knows q)) l.at l.fn.passes.items l.passes.items
    × IsOf l.lock l.token × (known l.token ≡ known l.fn.token)
