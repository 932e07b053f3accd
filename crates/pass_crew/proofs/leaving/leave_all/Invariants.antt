use Rattle.std.proofs.Common.{length, map}
use Rattle.std.specs.List.{AllByRecursion}
use Rattle.run_order.specs.Lists.{Grew}
use Rattle.run_order.specs.Orders.{Leaves}
use Rattle.phase_pool.specs.Workers.{hand}
use Rattle.pass_crew.specs.Inside.Assembled.{Assembled, IsKept}
use Rattle.pass_crew.proofs.leaving.leave_all.Given as goal

-- so many have left
abbrev pub invariant-loop : goal.invariant-loop
invariant-loop g l =
    g.C.Host.here l.crew l.first × AllByRecursion (λ w. g.C.Host.here l.crew w.pass) l.workers.items
    × Assembled (IsKept (g.C.Host.good l.crew) g.C.Host.knows (g.C.Host.tells l.crew)) (g.C.Host.opened l.crew) (length l.fn.workers.items) l.counter (g.C.Host.knows l.first) (map (hand g.C.Host.knows) l.workers.items)
    × Grew (Leaves l.counter) (g.C.Host.knows l.fn.first).seen (g.C.Host.knows l.first).seen
