use Rattle.std.proofs.Common.{take}
use Rattle.build_laws.specs.Builds.{items_of}
use Rattle.build_run.specs.Sweeps.{WereSwept}
use Rattle.build_run.proofs.cleaning.clean_projects.Given as goal

-- the projects so far were cleaned
abbrev pub invariant-loop-project : goal.invariant-loop-project
invariant-loop-project g l = WereSwept (g.H.Host.book l.initial.host) (items_of (take l.project-index l.projects)) (g.H.Host.book l.host)
    × g.H.Host.stays l.initial.host l.host
