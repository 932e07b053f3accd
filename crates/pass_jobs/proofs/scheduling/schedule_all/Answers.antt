use Rattle.std.proofs.Common.{◌≡◌, ◌∙◌, ◌∷◌, [], map, refl, subst}
use Rattle.run_order.specs.Lists.{acts, Cut}
use Rattle.run_order.proofs.Lists.{some_acts}
use Rattle.run_order.specs.Orders.{scheduled}
use Rattle.script_plan.specs.Plans.{job_plan}
use Rattle.phase_pool.specs.Passes.{Makes}
use Rattle.pass_jobs.specs.Inside.Floors.{Does, known}
use Rattle.pass_jobs.proofs.Turns.{acts_all, acts_cut, turns_all, turns_cut, turns_next, turns_none}
use Rattle.pass_jobs.proofs.Sleepers.{schedules_planned}
use Rattle.pass_jobs.proofs.scheduling.schedule_all.Goals as goal

pub loop-job-init : goal.loop-job-init
loop-job-init g c = (c.requires.here.0, c.requires.here.1, turns_none (λ x h. acts h ≡ scheduled (job_plan x) ∷ []) (λ x. some_acts (scheduled (job_plan x) ∷ [])) c.args.jobs.now (known (g.R.JobRoom.knows c.args.pass.now)))

pub schedule_one-requires-clause-here : goal.schedule_one-requires-clause-here
schedule_one-requires-clause-here g c = (c.loop-job.invariant.0, c.loop-job.invariant.1)

pub schedule_one-requires-clause-zeroth : goal.schedule_one-requires-clause-zeroth
schedule_one-requires-clause-zeroth g c = c.loop-job.invariant.2.number ∙ c.requires.zeroth

pub loop-job-preserved : goal.loop-job-preserved
loop-job-preserved g c =
    let k = g.R.JobRoom.knows c.args.pass.now in
    let i = g.R.JobRoom.knows c.loop-job.pass in
    let j = g.R.JobRoom.knows c.schedule_one.new.pass in (
      c.schedule_one.ensures.here.0,
      c.schedule_one.ensures.here.1,
      turns_next (λ x h. acts h ≡ scheduled (job_plan x) ∷ []) (λ x. some_acts (scheduled (job_plan x) ∷ [])) c.args.jobs.now (known k) c.loop-job.job-index c.job-item.result (known i) (known j) c.loop-job-test.true c.loop-job.invariant.2
          (subst (λ x. Makes (λ h. acts h ≡ scheduled (job_plan x) ∷ []) (known i) (known j)) c.job-item.is
          (subst (λ r. Does r (λ h. acts h ≡ scheduled (job_plan c.job-item.result) ∷ []) (known i) (known j)) c.in-Ok.is c.schedule_one.ensures.done)),
    )

pub returns-in-Err-clause-done : goal.returns-in-Err-clause-done
returns-in-Err-clause-done g c =
    let k = g.R.JobRoom.knows c.args.pass.now in
    let i = g.R.JobRoom.knows c.loop-job.pass in
    let j = g.R.JobRoom.knows c.schedule_one.new.pass in
    acts_cut (λ x. scheduled (job_plan x)) c.args.jobs.now _ (schedules_planned c.args.jobs.now) (known k) (known j)
    (turns_cut (λ x h. acts h ≡ scheduled (job_plan x) ∷ []) (λ x. some_acts (scheduled (job_plan x) ∷ [])) c.args.jobs.now (known k) c.loop-job.job-index c.job-item.result (known i) (known j) c.loop-job-test.true c.loop-job.invariant.2
    (subst (λ x. Makes (Cut (λ h. acts h ≡ scheduled (job_plan x) ∷ [])) (known i) (known j)) c.job-item.is
    (subst (λ r. Does r (λ h. acts h ≡ scheduled (job_plan c.job-item.result) ∷ []) (known i) (known j)) c.in-Err.is c.schedule_one.ensures.done)))

pub returns-clause-done : goal.returns-clause-done
returns-clause-done g c =
    let k = g.R.JobRoom.knows c.args.pass.now in
    let i = g.R.JobRoom.knows c.loop-job.pass in
    acts_all (λ x. scheduled (job_plan x)) c.args.jobs.now _ (schedules_planned c.args.jobs.now) (known k) (known i)
    (turns_all (λ x h. acts h ≡ scheduled (job_plan x) ∷ []) (λ x. some_acts (scheduled (job_plan x) ∷ [])) c.args.jobs.now (known k) c.loop-job.job-index (known i) c.loop-job-test.false c.loop-job.invariant.2)
