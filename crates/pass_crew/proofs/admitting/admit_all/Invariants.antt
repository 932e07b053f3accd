use Rattle.std.proofs.Common.{◌≡◌, length, map}
use Rattle.std.specs.List.{AllByRecursion}
use Rattle.phase_pool.specs.Workers.{hand}
use Rattle.pass_crew.specs.Inside.Admitted.{Admitted}
use Rattle.pass_crew.proofs.admitting.admit_all.Given as goal

-- so many were let in
abbrev pub invariant-loop : goal.invariant-loop
invariant-loop g l =
    g.C.Host.here l.crew l.first × AllByRecursion (λ w. g.C.Host.here l.crew w.pass) l.workers.items
    × Admitted (g.C.Host.opened l.crew) (g.C.Host.knows l.first) (map (hand g.C.Host.knows) l.workers.items)
    × (length l.workers.items ≡ l.counter)
