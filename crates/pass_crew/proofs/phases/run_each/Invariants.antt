use Rattle.std.proofs.Common.{◌≡◌, length, map, take}
use Rattle.std.specs.List.{AllByRecursion}
use Rattle.run_order.specs.Orders.{Phases}
use Rattle.phase_pool.specs.Workers.{AllGoOn, Together, hand}
use Rattle.pass_crew.specs.Inside.Telling.{Tells}
use Rattle.pass_crew.proofs.phases.run_each.Given as goal

-- the phases so far were run and told
abbrev pub invariant-loop-phase : goal.invariant-loop-phase
invariant-loop-phase g l =
    g.C.Host.here l.crew l.first × AllByRecursion (λ w. g.C.Host.here l.crew w.pass) l.workers.items
    × Together (g.C.Host.opened l.crew) (g.C.Host.knows l.first) (map (hand g.C.Host.knows) l.workers.items)
    × (length l.workers.items ≡ length l.fn.workers.items) × AllGoOn (map (hand g.C.Host.knows) l.workers.items)
    × Phases (g.C.Host.makes l.crew) (length l.fn.workers.items) (g.C.Host.opened l.crew) (take l.phase-index (map (λ p. g.C.Host.plan p) l.phases)) (g.C.Host.knows l.fn.first).seen (g.C.Host.knows l.first).seen
    × (l.count ≡ length (g.C.Host.knows l.first).seen)
    × Tells (g.C.Host.knows l.fn.first).seen (g.C.Host.knows l.first).seen (map (λ x. g.L.Listener.heard x) l.fn.listeners) (map (λ x. g.L.Listener.heard x) l.listeners)
