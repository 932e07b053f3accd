use Rattle.std.proofs.Common.{◌≡◌, ◌∷◌, [], take}
use Rattle.run_order.specs.Lists.{acts, InTurn}
use Rattle.phase_pool.specs.Passes.{Makes}
use Rattle.pass_jobs.specs.Inside.Floors.{IsHere, cancelling, known}
use Rattle.pass_jobs.proofs.scheduling.cancel_all.Given as goal

-- the jobs so far are cancelled
abbrev pub invariant-loop-name : goal.invariant-loop-name
invariant-loop-name g l =
    g.R.JobRoom.is_of l.room l.pass × IsHere (g.R.JobRoom.opened l.room) (g.R.Builds.PassBuilds.good (g.R.JobRoom.opened l.room)) (g.R.JobRoom.knows l.pass)
    × Makes (InTurn (λ x h. acts h ≡ cancelling x ∷ []) (take l.name-index l.names)) (known (g.R.JobRoom.knows l.fn.pass)) (known (g.R.JobRoom.knows l.pass))
