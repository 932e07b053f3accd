use Rattle.std.proofs.Common.{◌≡◌}
use Rattle.phase_pool.specs.Workers.{hand}
use Rattle.phase_pool.specs.Inside.Meeting.{HasSeen}
use Rattle.phase_pool.proofs.Pairs.{PairsTo}
use Rattle.phase_pool.proofs.meeting.tell_all.Given as goal

-- those before the place were told
abbrev pub invariant-loop-at : goal.invariant-loop-at
invariant-loop-at g l =
    PairsTo (λ v w. g.H.Host.here l.host w.pass × HasSeen (g.H.Host.knows l.fn.first).seen (hand g.H.Host.knows v) (hand g.H.Host.knows w)) l.at l.fn.workers.items l.workers.items
    × g.H.Host.here l.host l.first × (g.H.Host.knows l.first ≡ g.H.Host.knows l.fn.first)
