use Rattle.run_order.specs.Parts.{CommandEntries}
use Rattle.run_order.proofs.Parts.{event_some}
use Rattle.pass_jobs.specs.Calls.{AllOrNone}
use Rattle.pass_jobs.proofs.Quiet.{event_quiet}
use Rattle.pass_jobs.proofs.Went.{all_or_none, here_quietly, went_makes}
use Rattle.pass_jobs.proofs.commands.do_event.Goals as goal

pub returns-clause-here : goal.returns-clause-here
returns-clause-here g c =
    let s = g.R.JobRoom.opened c.args.room.now in
    let k = g.R.JobRoom.knows c.args.pass.now in (
      c.do_unless.ensures.of,
      here_quietly s (g.R.Builds.PassBuilds.good s) (g.R.Builds.PassBuilds.stays_good s) (AllOrNone (CommandEntries k.number c.args.event) c.do_unless.result)
          (event_quiet k.number c.args.event c.requires.plain c.do_unless.result) k (g.R.JobRoom.knows c.do_unless.new.pass) c.requires.here.1 c.do_unless.ensures.done,
    )

pub returns-clause-done : goal.returns-clause-done
returns-clause-done g c =
    let s = g.R.JobRoom.opened c.args.room.now in
    let k = g.R.JobRoom.knows c.args.pass.now in
    let j = g.R.JobRoom.knows c.do_unless.new.pass in
    let P = CommandEntries k.number c.args.event in
    all_or_none P k j (event_some (λ e. e) k.number c.args.event) c.do_unless.result (went_makes s (AllOrNone P c.do_unless.result) k j c.requires.here.1.faithful c.do_unless.ensures.done)
