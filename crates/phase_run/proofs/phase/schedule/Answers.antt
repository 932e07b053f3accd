use Rattle.std.proofs.Common.{refl, ◌∙◌, ◌≡◌, ◌∷◌, [], subst}
use Rattle.run_order.specs.Lists.{acts}
use Rattle.run_order.specs.Orders.{scheduled}
use Rattle.script_plan.specs.Plans.{job_plan}
use Rattle.phase_run.specs.Inside.Doing.{Makes}
use Rattle.phase_run.proofs.Results.{on_err}
use Rattle.phase_run.proofs.Phases.{schedule_none, schedule_next, schedule_stop, schedule_all}
use Rattle.phase_run.proofs.phase.schedule.Goals as goal

pub loop-job-init : goal.loop-job-init
loop-job-init g c = (schedule_none c.args.jobs.now c.args.space.now.core c.requires, refl, refl)

pub loop-job-preserved : goal.loop-job-preserved
loop-job-preserved g c = (
  schedule_next c.args.jobs.now c.loop-job.job-index c.job-item.result c.args.space.now.core c.loop-job.space.core c.schedule_one.new.space.core c.loop-job-test.true c.loop-job.invariant.0
      (subst (λ x. Makes (λ h. acts h ≡ scheduled (job_plan x) ∷ []) c.loop-job.space.core c.schedule_one.new.space.core) c.job-item.is c.in_ok-schedule_one.ensures.done),
  c.in_ok-schedule_one.ensures.start.0 ∙ c.loop-job.invariant.1,
  c.in_ok-schedule_one.ensures.start.1 ∙ c.loop-job.invariant.2,
)

pub returns-in_err-schedule_one-clause-done : goal.returns-in_err-schedule_one-clause-done
returns-in_err-schedule_one-clause-done g c = on_err _ _ c.from_residual.result c.from_residual.ensures.0
    (schedule_stop c.args.jobs.now c.loop-job.job-index c.args.space.now.core c.loop-job.space.core c.schedule_one.new.space.core c.loop-job.invariant.0 c.in_err-schedule_one.ensures.done)

pub returns-clause-done : goal.returns-clause-done
returns-clause-done g c = schedule_all c.args.jobs.now c.loop-job.job-index c.args.space.now.core c.loop-job.space.core c.loop-job-test.false c.loop-job.invariant.0
