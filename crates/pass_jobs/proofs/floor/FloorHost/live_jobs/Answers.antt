use Rattle.std.proofs.Common.{◌≡◌, []}
use Rattle.pass_jobs.proofs.Quiet.{nothing_quiet}
use Rattle.pass_jobs.proofs.Went.{here_quietly, went_makes}
use Rattle.pass_jobs.proofs.floor.FloorHost.live_jobs.Goals as goal

pub returns-clause-here : goal.returns-clause-here
returns-clause-here g c =
    let s = g.R.JobRoom.opened c.args.self.now.room in (
      c.live_jobs.ensures.of,
      here_quietly s (g.R.Builds.PassBuilds.good s) (g.R.Builds.PassBuilds.stays_good s) (λ h. h ≡ []) nothing_quiet (g.R.JobRoom.knows c.args.pass.now) (g.R.JobRoom.knows c.live_jobs.new.pass) c.requires.1 c.live_jobs.ensures.looked,
    )

pub returns-clause-looked : goal.returns-clause-looked
returns-clause-looked g c =
    let s = g.R.JobRoom.opened c.args.self.now.room in
    went_makes s (λ h. h ≡ []) (g.R.JobRoom.knows c.args.pass.now) (g.R.JobRoom.knows c.live_jobs.new.pass) c.requires.1.faithful c.live_jobs.ensures.looked
