use Rattle.std.proofs.Common.{◌≡◌, map, take}
use Rattle.phase_pool.specs.Workers.{hand}
use Rattle.phase_pool.specs.Inside.Meeting.{Collects}
use Rattle.phase_pool.proofs.Pairs.{PairsTo}
use Rattle.phase_pool.proofs.meeting.collect_all.Given as goal

-- pass 0 met those before the place
abbrev pub invariant-loop-at : goal.invariant-loop-at
invariant-loop-at g l =
    Collects (g.H.Host.knows l.fn.first) (map (hand g.H.Host.knows) (take l.at l.fn.workers.items)) (g.H.Host.knows l.first)
    × PairsTo (λ v w. g.H.Host.here l.host w.pass × (hand g.H.Host.knows w ≡ hand g.H.Host.knows v)) l.at l.fn.workers.items l.workers.items
    × g.H.Host.here l.host l.first
