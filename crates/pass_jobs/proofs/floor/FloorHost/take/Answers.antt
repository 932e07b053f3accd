use Rattle.std.proofs.Common.{refl}
use Rattle.pass_jobs.specs.Calls.{TookOne}
use Rattle.pass_jobs.specs.Inside.Floors.{known}
use Rattle.pass_jobs.proofs.Jobs.{took, took_none}
use Rattle.pass_jobs.proofs.Quiet.{take_quiet}
use Rattle.pass_jobs.proofs.Went.{here_quietly, went_makes}
use Rattle.pass_jobs.proofs.floor.FloorHost.take.Goals as goal

pub returns-clause-here : goal.returns-clause-here
returns-clause-here g c =
    let s = g.R.JobRoom.opened c.args.self.now.room in
    let k = g.R.JobRoom.knows c.args.pass.now in (
      c.take_job.ensures.of,
      here_quietly s (g.R.Builds.PassBuilds.good s) (g.R.Builds.PassBuilds.stays_good s) (TookOne k.number c.take_job.result) (take_quiet k.number c.take_job.result) k (g.R.JobRoom.knows c.take_job.new.pass)
          c.requires.1 c.take_job.ensures.taken,
    )

pub returns-clause-taken : goal.returns-clause-taken
returns-clause-taken g c =
    let s = g.R.JobRoom.opened c.args.self.now.room in
    let k = g.R.JobRoom.knows c.args.pass.now in
    let j = g.R.JobRoom.knows c.take_job.new.pass in
    took k.number (known k) (known j) refl c.take_job.result (went_makes s (TookOne k.number c.take_job.result) k j c.requires.1.faithful c.take_job.ensures.taken)

pub returns-clause-nothing : goal.returns-clause-nothing
returns-clause-nothing g c =
    let s = g.R.JobRoom.opened c.args.self.now.room in
    let k = g.R.JobRoom.knows c.args.pass.now in
    let j = g.R.JobRoom.knows c.take_job.new.pass in
    took_none k.number (known k) (known j) c.take_job.result (went_makes s (TookOne k.number c.take_job.result) k j c.requires.1.faithful c.take_job.ensures.taken)
