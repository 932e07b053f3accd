use Rattle.std.proofs.Common.{sym, subst}
use Rattle.script_plan.specs.Plans.{AskedEntries}
use Rattle.script_plan.proofs.Commands.{asked_one}
use Rattle.pass_jobs.specs.Inside.Floors.{Does, known}
use Rattle.pass_jobs.proofs.Quiet.{command_plain}
use Rattle.pass_jobs.proofs.commands.do_asked.Goals as goal

pub do_event-requires-clause-plain : goal.do_event-requires-clause-plain
do_event-requires-clause-plain g c = command_plain c.in-One.event (asked_one c.args.asked c.in-One.event c.in-One.is c.requires.asked).command

pub returns-in-One-clause-done : goal.returns-in-One-clause-done
returns-in-One-clause-done g c =
    let s = g.R.JobRoom.opened c.args.room.now in
    let k = g.R.JobRoom.knows c.args.pass.now in
    subst (λ x. Does c.do_event.result (AskedEntries (g.R.Builds.PassBuilds.makes s) k.number x) (known k) (known (g.R.JobRoom.knows c.do_event.new.pass))) (sym c.in-One.is) c.do_event.ensures.done

pub returns-in-Build-clause-done : goal.returns-in-Build-clause-done
returns-in-Build-clause-done g c =
    let s = g.R.JobRoom.opened c.args.room.now in
    let k = g.R.JobRoom.knows c.args.pass.now in
    subst (λ x. Does c.do_build.result (AskedEntries (g.R.Builds.PassBuilds.makes s) k.number x) (known k) (known (g.R.JobRoom.knows c.do_build.new.pass))) (sym c.in-Build.is) c.do_build.ensures.done

pub returns-in-Save-clause-done : goal.returns-in-Save-clause-done
returns-in-Save-clause-done g c =
    let s = g.R.JobRoom.opened c.args.room.now in
    let k = g.R.JobRoom.knows c.args.pass.now in
    subst (λ x. Does c.do_save.result (AskedEntries (g.R.Builds.PassBuilds.makes s) k.number x) (known k) (known (g.R.JobRoom.knows c.do_save.new.pass))) (sym c.in-Save.is) c.do_save.ensures.done
