use Rattle.std.proofs.Common.{◌≡◌, take}
use Rattle.script_plan.specs.Plans.{jobs_plan}
use Rattle.phase_run.specs.Inside.Doing.{Makes}
use Rattle.phase_run.proofs.Phases.{Scheduled}
use Rattle.phase_run.proofs.phase.schedule.Given as goal

-- the jobs so far are scheduled
abbrev pub invariant-loop-job : goal.invariant-loop-job
invariant-loop-job g l = Makes (Scheduled (take l.job-index (jobs_plan l.jobs))) l.fn.space.core l.space.core
    × (l.space.keeper.began ≡ l.fn.space.keeper.began) × (l.space.began ≡ l.fn.space.began)
