use Rattle.std.proofs.Common.{refl, ◌∙◌, ◌∷◌, [], subst}
use Rattle.ws_core.specs.Histories.{replay}
use Rattle.script_plan.specs.Plans.{job_plan}
use Rattle.phase_run.specs.Inside.Doing.{Makes}
use Rattle.phase_run.proofs.Results.{on_err}
use Rattle.phase_run.proofs.Phases.{Cancelled, cancel_none, cancel_next, cancel_stop, cancel_all}
use Rattle.phase_run.proofs.phase.cancel.Goals as goal

pub loop-job-init : goal.loop-job-init
loop-job-init g c = (cancel_none c.args.jobs.now c.args.space.now.core c.requires.ready, refl, refl)

pub loop-job-preserved : goal.loop-job-preserved
loop-job-preserved g c = (
  cancel_next c.args.jobs.now c.loop-job.job-index c.job-item.result c.args.space.now.core c.loop-job.space.core c.cancel_one.new.space.core c.loop-job-test.true c.requires.names c.loop-job.invariant.0
      (subst (λ x. Makes (Cancelled (replay c.loop-job.space.core.opened c.loop-job.space.core.history) (job_plan x ∷ [])) c.loop-job.space.core c.cancel_one.new.space.core) c.job-item.is c.in_ok-cancel_one.ensures.done),
  c.in_ok-cancel_one.ensures.start.0 ∙ c.loop-job.invariant.1,
  c.in_ok-cancel_one.ensures.start.1 ∙ c.loop-job.invariant.2,
)

pub returns-in_err-cancel_one-clause-done : goal.returns-in_err-cancel_one-clause-done
returns-in_err-cancel_one-clause-done g c = on_err _ _ c.from_residual.result c.from_residual.ensures.0
    (cancel_stop c.args.jobs.now c.loop-job.job-index c.args.space.now.core c.loop-job.space.core c.cancel_one.new.space.core c.loop-job.invariant.0 c.in_err-cancel_one.ensures.done)

pub returns-clause-done : goal.returns-clause-done
returns-clause-done g c = cancel_all c.args.jobs.now c.loop-job.job-index c.args.space.now.core c.loop-job.space.core c.loop-job-test.false c.loop-job.invariant.0
