use Rattle.std.proofs.Common.{subst}
use Rattle.phase_pool.specs.Parts.{IsRest}
use Rattle.script_plan.specs.Plans.{Made}
use Rattle.pass_jobs.specs.Inside.Floors.{Does, known}
use Rattle.pass_jobs.proofs.Jobs.{where_err, where_ok}
use Rattle.pass_jobs.proofs.floor.FloorHost.perform.Goals as goal

pub returns-clause-done : goal.returns-clause-done
returns-clause-done g c =
    let made = Made (g.R.Builds.PassBuilds.makes (g.R.JobRoom.opened c.args.self.now.room)) in
    let k = g.R.JobRoom.knows c.args.pass.now in
    let j = g.R.JobRoom.knows c.do_job.new.pass in
    where_ok _ (known k) (known j) c.do_job.result (subst (λ cs. Does c.do_job.result (IsRest made k.number cs) (known k) (known j)) c.commands-commands.ensures c.do_job.ensures.done)

pub returns-clause-cut : goal.returns-clause-cut
returns-clause-cut g c =
    let made = Made (g.R.Builds.PassBuilds.makes (g.R.JobRoom.opened c.args.self.now.room)) in
    let k = g.R.JobRoom.knows c.args.pass.now in
    let j = g.R.JobRoom.knows c.do_job.new.pass in
    where_err _ (known k) (known j) c.do_job.result (subst (λ cs. Does c.do_job.result (IsRest made k.number cs) (known k) (known j)) c.commands-commands.ensures c.do_job.ensures.done)
