use Rattle.std.proofs.Common.{length}
use Rattle.build_run.proofs.Nexts.{Left}
use Rattle.build_run.proofs.groups.build_groups.Given as goal

-- the groups before those that are left came through
abbrev pub invariant-loop-rest : goal.invariant-loop-rest
invariant-loop-rest g l = Left g.H.Told.Meanings.meaning (g.H.Host.book l.initial.host) l.kind l.order l.knots l.rest l.ties (g.H.Host.book l.host)
    × g.H.Host.stays l.initial.host l.host

abbrev pub decreases-loop-rest : goal.decreases-loop-rest
decreases-loop-rest g l = length l.rest
