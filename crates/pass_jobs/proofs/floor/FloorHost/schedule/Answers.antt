use Rattle.std.proofs.Common.{◌≡◌, map, subst}
use Rattle.run_order.specs.Lists.{acts}
use Rattle.run_order.specs.Orders.{scheduled}
use Rattle.script_plan.specs.Plans.{jobs_plan}
use Rattle.pass_jobs.specs.Inside.Floors.{Does, known}
use Rattle.pass_jobs.proofs.Jobs.{where_err, where_ok}
use Rattle.pass_jobs.proofs.floor.FloorHost.schedule.Goals as goal

pub returns-clause-done : goal.returns-clause-done
returns-clause-done g c =
    let k = known (g.R.JobRoom.knows c.args.pass.now) in
    let j = known (g.R.JobRoom.knows c.schedule_all.new.pass) in
    where_ok _ k j c.schedule_all.result (subst (λ js. Does c.schedule_all.result (λ h. acts h ≡ map scheduled (jobs_plan js)) k j) c.jobs.ensures c.schedule_all.ensures.done)

pub returns-clause-cut : goal.returns-clause-cut
returns-clause-cut g c =
    let k = known (g.R.JobRoom.knows c.args.pass.now) in
    let j = known (g.R.JobRoom.knows c.schedule_all.new.pass) in
    where_err _ k j c.schedule_all.result (subst (λ js. Does c.schedule_all.result (λ h. acts h ≡ map scheduled (jobs_plan js)) k j) c.jobs.ensures c.schedule_all.ensures.done)
