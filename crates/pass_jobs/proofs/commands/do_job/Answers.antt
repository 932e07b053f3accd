use Rattle.std.proofs.Common.{refl, subst}
use Rattle.run_order.specs.Lists.{InTurn}
use Rattle.script_plan.specs.Plans.{Made}
use Rattle.pass_jobs.specs.Inside.Floors.{Does, known}
use Rattle.pass_jobs.proofs.Jobs.{job_cut, job_done}
use Rattle.pass_jobs.proofs.commands.do_job.Goals as goal

pub do_event-requires-clause-plain : goal.do_event-requires-clause-plain
do_event-requires-clause-plain g c = refl

pub returns-in-Ok-clause-done : goal.returns-in-Ok-clause-done
returns-in-Ok-clause-done g c =
    let s = g.R.JobRoom.opened c.args.room.now in
    let k = g.R.JobRoom.knows c.args.pass.now in
    let j = g.R.JobRoom.knows c.do_commands.new.pass in
    let made = Made (g.R.Builds.PassBuilds.makes s) in
    job_done made c.args.commands.now c.do_event.result (known k) (known j) (known (g.R.JobRoom.knows c.do_event.new.pass))
    (subst (λ r. Does r (InTurn (made k.number) c.args.commands.now) (known k) (known j)) c.in-Ok.is c.do_commands.ensures.done) c.do_event.ensures.done

pub returns-in-Err-clause-done : goal.returns-in-Err-clause-done
returns-in-Err-clause-done g c =
    let s = g.R.JobRoom.opened c.args.room.now in
    let k = g.R.JobRoom.knows c.args.pass.now in
    let j = g.R.JobRoom.knows c.do_commands.new.pass in
    let made = Made (g.R.Builds.PassBuilds.makes s) in
    job_cut made c.args.commands.now (known k) (known j) (subst (λ r. Does r (InTurn (made k.number) c.args.commands.now) (known k) (known j)) c.in-Err.is c.do_commands.ensures.done)
