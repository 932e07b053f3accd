use Rattle.pass_jobs.specs.Calls.{AllOrSome}
use Rattle.pass_jobs.proofs.Went.{all_or_some, err_does, here_on, ok_does, went_makes}
use Rattle.pass_jobs.proofs.commands.do_build.Goals as goal

pub returns-in-Ok-clause-here : goal.returns-in-Ok-clause-here
returns-in-Ok-clause-here g c =
    let s = g.R.JobRoom.opened c.args.room.now in
    let k = g.R.JobRoom.knows c.args.pass.now in (
      c.build.ensures.of,
      here_on s (g.R.Builds.PassBuilds.good s) (AllOrSome (g.R.Builds.PassBuilds.makes s k.number c.args.kind c.args.project) c.build.result) k (g.R.JobRoom.knows c.build.new.pass) c.requires.1
          c.build.ensures.built (c.build.ensures.good c.requires.1.good),
    )

pub returns-in-Ok-clause-done : goal.returns-in-Ok-clause-done
returns-in-Ok-clause-done g c =
    let s = g.R.JobRoom.opened c.args.room.now in
    let k = g.R.JobRoom.knows c.args.pass.now in
    let j = g.R.JobRoom.knows c.build.new.pass in
    let P = g.R.Builds.PassBuilds.makes s k.number c.args.kind c.args.project in
    ok_does P k j c.build.result (all_or_some P k j c.build.result (went_makes s (AllOrSome P c.build.result) k j c.requires.1.faithful c.build.ensures.built)) c.in-Ok.answer c.in-Ok.is c.built_well.result

pub returns-in-Err-clause-here : goal.returns-in-Err-clause-here
returns-in-Err-clause-here g c =
    let s = g.R.JobRoom.opened c.args.room.now in
    let k = g.R.JobRoom.knows c.args.pass.now in (
      c.build.ensures.of,
      here_on s (g.R.Builds.PassBuilds.good s) (AllOrSome (g.R.Builds.PassBuilds.makes s k.number c.args.kind c.args.project) c.build.result) k (g.R.JobRoom.knows c.build.new.pass) c.requires.1
          c.build.ensures.built (c.build.ensures.good c.requires.1.good),
    )

pub returns-in-Err-clause-done : goal.returns-in-Err-clause-done
returns-in-Err-clause-done g c =
    let s = g.R.JobRoom.opened c.args.room.now in
    let k = g.R.JobRoom.knows c.args.pass.now in
    let j = g.R.JobRoom.knows c.build.new.pass in
    let P = g.R.Builds.PassBuilds.makes s k.number c.args.kind c.args.project in
    err_does P k j c.build.result (all_or_some P k j c.build.result (went_makes s (AllOrSome P c.build.result) k j c.requires.1.faithful c.build.ensures.built)) _ c.in-Err.is
