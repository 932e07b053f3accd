use Rattle.std.proofs.Common.{◌≡◌, length, map, take}
use Rattle.std.specs.List.{AllByRecursion}
use Rattle.run_order.specs.Orders.{Phases}
use Rattle.phase_pool.specs.Workers.{AllGoOn, Together, hand}
use Rattle.phase_pool.proofs.run.run_each.Given as goal

-- the phases so far were run
abbrev pub invariant-loop-phase : goal.invariant-loop-phase
invariant-loop-phase g l =
    g.H.Host.here l.host l.first × AllByRecursion (λ w. g.H.Host.here l.host w.pass) l.workers.items
    × Together (g.H.Host.opened l.host) (g.H.Host.knows l.first) (map (hand g.H.Host.knows) l.workers.items)
    × (length l.workers.items ≡ length l.fn.workers.items) × AllGoOn (map (hand g.H.Host.knows) l.workers.items)
    × Phases (g.H.Host.makes l.host) (length l.fn.workers.items) (g.H.Host.opened l.host) (take l.phase-index (map (λ p. g.H.Host.plan p) l.phases)) (g.H.Host.knows l.fn.first).seen (g.H.Host.knows l.first).seen
