use Rattle.save_history.specs.Saves.{IsSave}
use Rattle.script_plan.proofs.Saves.{some_save}
use Rattle.pass_jobs.specs.Calls.{AllOrNone}
use Rattle.pass_jobs.proofs.Quiet.{save_quiet}
use Rattle.pass_jobs.proofs.Went.{all_or_none, err_does, here_quietly, ok_does, went_makes}
use Rattle.pass_jobs.proofs.commands.do_save.Goals as goal

pub returns-in-Ok-clause-here : goal.returns-in-Ok-clause-here
returns-in-Ok-clause-here g c =
    let s = g.R.JobRoom.opened c.args.room.now in
    let k = g.R.JobRoom.knows c.args.pass.now in (
      c.save.ensures.of,
      here_quietly s (g.R.Builds.PassBuilds.good s) (g.R.Builds.PassBuilds.stays_good s) (AllOrNone (IsSave k.number c.args.kind) c.save.result) (save_quiet k.number c.args.kind c.save.result) k
          (g.R.JobRoom.knows c.save.new.pass) c.requires.1 c.save.ensures.saved,
    )

pub returns-in-Ok-clause-done : goal.returns-in-Ok-clause-done
returns-in-Ok-clause-done g c =
    let s = g.R.JobRoom.opened c.args.room.now in
    let k = g.R.JobRoom.knows c.args.pass.now in
    let j = g.R.JobRoom.knows c.save.new.pass in
    let P = IsSave k.number c.args.kind in
    ok_does P k j c.save.result (all_or_none P k j (some_save k.number c.args.kind) c.save.result (went_makes s (AllOrNone P c.save.result) k j c.requires.1.faithful c.save.ensures.saved)) c.in-Ok.answer c.in-Ok.is c.saved_well.result

pub returns-in-Err-clause-here : goal.returns-in-Err-clause-here
returns-in-Err-clause-here g c =
    let s = g.R.JobRoom.opened c.args.room.now in
    let k = g.R.JobRoom.knows c.args.pass.now in (
      c.save.ensures.of,
      here_quietly s (g.R.Builds.PassBuilds.good s) (g.R.Builds.PassBuilds.stays_good s) (AllOrNone (IsSave k.number c.args.kind) c.save.result) (save_quiet k.number c.args.kind c.save.result) k
          (g.R.JobRoom.knows c.save.new.pass) c.requires.1 c.save.ensures.saved,
    )

pub returns-in-Err-clause-done : goal.returns-in-Err-clause-done
returns-in-Err-clause-done g c =
    let s = g.R.JobRoom.opened c.args.room.now in
    let k = g.R.JobRoom.knows c.args.pass.now in
    let j = g.R.JobRoom.knows c.save.new.pass in
    let P = IsSave k.number c.args.kind in
    err_does P k j c.save.result (all_or_none P k j (some_save k.number c.args.kind) c.save.result (went_makes s (AllOrNone P c.save.result) k j c.requires.1.faithful c.save.ensures.saved)) _ c.in-Err.is
