use Rattle.build_laws.specs.Builds.{items_of}
use Rattle.build_run.proofs.Knots.{Stirred}
use Rattle.build_run.proofs.building.build_knot.Given as goal

-- each round so far touched a file
abbrev pub invariant-loop-round : goal.invariant-loop-round
invariant-loop-round g l =
    Stirred g.H.Told.Meanings.meaning (g.H.Host.book l.initial.host) l.fn.kind (items_of l.projects) l._round l.asked (g.H.Host.book l.host)
    × g.H.Host.stays l.initial.host l.host
