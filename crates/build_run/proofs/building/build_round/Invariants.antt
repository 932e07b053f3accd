use Rattle.std.proofs.Common.{take}
use Rattle.build_laws.specs.Builds.{items_of}
use Rattle.build_run.specs.Ends.{RoundCame}
use Rattle.build_run.proofs.building.build_round.Given as goal

-- the projects so far came through
abbrev pub invariant-loop-project : goal.invariant-loop-project
invariant-loop-project g l =
    RoundCame g.H.Told.Meanings.meaning (g.H.Host.book l.initial.host) l.kind (items_of (take l.project-index l.projects)) l.touched (g.H.Host.book l.host)
    × g.H.Host.stays l.initial.host l.host
