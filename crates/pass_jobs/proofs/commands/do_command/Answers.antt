use Rattle.std.proofs.Common.{sym, subst}
use Rattle.run_order.specs.Lists.{Cut}
use Rattle.run_order.proofs.Lists.{cut_none}
use Rattle.script_plan.specs.Plans.{AskedEntries, IsAskable, Made}
use Rattle.script_plan.proofs.Commands.{askable, some_made}
use Rattle.phase_pool.specs.Inside.Laws.{makes_none}
use Rattle.pass_jobs.specs.Inside.Floors.{Does, known}
use Rattle.pass_jobs.proofs.commands.do_command.Goals as goal

pub do_asked-requires-clause-asked : goal.do_asked-requires-clause-asked
do_asked-requires-clause-asked g c = subst IsAskable (sym c.in-Ok.ensures) (askable c.args.command.now)

pub returns-in-Ok-clause-done : goal.returns-in-Ok-clause-done
returns-in-Ok-clause-done g c =
    let s = g.R.JobRoom.opened c.args.room.now in
    let k = g.R.JobRoom.knows c.args.pass.now in
    subst (λ x. Does c.do_asked.result (AskedEntries (g.R.Builds.PassBuilds.makes s) k.number x) (known k) (known (g.R.JobRoom.knows c.do_asked.new.pass))) c.in-Ok.ensures c.do_asked.ensures.done

pub returns-in-Err-clause-done : goal.returns-in-Err-clause-done
returns-in-Err-clause-done g c =
    let s = g.R.JobRoom.opened c.args.room.now in
    let k = g.R.JobRoom.knows c.args.pass.now in
    let builds = g.R.Builds.PassBuilds.makes s in
    let P = Made builds k.number c.args.command.now in
    makes_none (Cut P) (known k) (cut_none P (some_made builds k.number (g.R.Builds.PassBuilds.some_made s k.number) c.args.command.now))
