use Rattle.std.proofs.Common.{◌≡◌, take}
use Rattle.ws_core.specs.Histories.{replay}
use Rattle.script_plan.specs.Plans.{jobs_plan}
use Rattle.phase_run.specs.Inside.Doing.{Makes}
use Rattle.phase_run.proofs.Phases.{Cancelled}
use Rattle.phase_run.proofs.phase.cancel.Given as goal

-- of the jobs so far those that slept are cancelled
abbrev pub invariant-loop-job : goal.invariant-loop-job
invariant-loop-job g l = Makes (Cancelled (replay l.fn.space.core.opened l.fn.space.core.history) (take l.job-index (jobs_plan l.jobs))) l.fn.space.core l.space.core
    × (l.space.keeper.began ≡ l.fn.space.keeper.began) × (l.space.began ≡ l.fn.space.began)
