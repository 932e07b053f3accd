use Rattle.std.proofs.Common.{◌≡◌, ◌∙◌, [], ap, map}
use Rattle.pass_jobs.specs.Inside.Floors.{known}
use Rattle.pass_jobs.proofs.Quiet.{nothing_quiet}
use Rattle.pass_jobs.proofs.Sleepers.{cancels_cut, cancels_found, cancels_none}
use Rattle.pass_jobs.proofs.Went.{here_quietly, went_makes}
use Rattle.pass_jobs.proofs.floor.FloorHost.cancel.Goals as goal

pub cancel_all-requires-clause-here : goal.cancel_all-requires-clause-here
cancel_all-requires-clause-here g c =
    let s = g.R.JobRoom.opened c.args.self.now.room in (
      c.asleep-asleep.ensures.of,
      here_quietly s (g.R.Builds.PassBuilds.good s) (g.R.Builds.PassBuilds.stays_good s) (λ h. h ≡ []) nothing_quiet (g.R.JobRoom.knows c.args.pass.now) (g.R.JobRoom.knows c.asleep-asleep.new.pass) c.requires.here.1 c.asleep-asleep.ensures.looked,
    )

pub cancel_all-requires-clause-zeroth : goal.cancel_all-requires-clause-zeroth
cancel_all-requires-clause-zeroth g c = c.asleep-asleep.ensures.looked.number ∙ c.requires.zeroth

pub returns-in-Ok-clause-done : goal.returns-in-Ok-clause-done
returns-in-Ok-clause-done g c =
    let s = g.R.JobRoom.opened c.args.self.now.room in
    let k = g.R.JobRoom.knows c.args.pass.now in
    let i = g.R.JobRoom.knows c.asleep-asleep.new.pass in
    cancels_found s c.args.phase.now (known k) (known i) (went_makes s (λ h. h ≡ []) k i c.requires.here.1.faithful c.asleep-asleep.ensures.looked)
    c.in-Ok.names.items c.as_slice.result.now (c.in-Ok.ensures ∙ ap (map (λ job. job.name)) c.jobs.ensures) (c.as_slice.ensures.value ∙ c.asleep-asleep.ensures.asleep) (known (g.R.JobRoom.knows c.cancel_all.new.pass)) c.cancel_all.result c.cancel_all.ensures.done

pub returns-in-Ok-clause-cut : goal.returns-in-Ok-clause-cut
returns-in-Ok-clause-cut g c =
    let s = g.R.JobRoom.opened c.args.self.now.room in
    let k = g.R.JobRoom.knows c.args.pass.now in
    let i = g.R.JobRoom.knows c.asleep-asleep.new.pass in
    cancels_cut s c.args.phase.now (known k) (known i) (went_makes s (λ h. h ≡ []) k i c.requires.here.1.faithful c.asleep-asleep.ensures.looked)
    c.in-Ok.names.items c.as_slice.result.now (c.in-Ok.ensures ∙ ap (map (λ job. job.name)) c.jobs.ensures) (c.as_slice.ensures.value ∙ c.asleep-asleep.ensures.asleep) (known (g.R.JobRoom.knows c.cancel_all.new.pass)) c.cancel_all.result c.cancel_all.ensures.done

pub returns-in-Err-clause-cut : goal.returns-in-Err-clause-cut
returns-in-Err-clause-cut g c = cancels_none (g.R.JobRoom.opened c.args.self.now.room) c.args.phase.now (known (g.R.JobRoom.knows c.args.pass.now))
