use Rattle.std.proofs.Common.{◌≡◌, ◌∷◌, [], take}
use Rattle.run_order.specs.Lists.{acts, InTurn}
use Rattle.run_order.specs.Orders.{scheduled}
use Rattle.script_plan.specs.Plans.{job_plan}
use Rattle.phase_pool.specs.Passes.{Makes}
use Rattle.pass_jobs.specs.Inside.Floors.{IsHere, known}
use Rattle.pass_jobs.proofs.scheduling.schedule_all.Given as goal

-- the jobs so far are scheduled
abbrev pub invariant-loop-job : goal.invariant-loop-job
invariant-loop-job g l =
    g.R.JobRoom.is_of l.room l.pass × IsHere (g.R.JobRoom.opened l.room) (g.R.Builds.PassBuilds.good (g.R.JobRoom.opened l.room)) (g.R.JobRoom.knows l.pass)
    × Makes (InTurn (λ x h. acts h ≡ scheduled (job_plan x) ∷ []) (take l.job-index l.jobs)) (known (g.R.JobRoom.knows l.fn.pass)) (known (g.R.JobRoom.knows l.pass))
