use Rattle.std.proofs.Common.{◌≡◌, [], ap, sym, subst}
use Rattle.pass_jobs.specs.Inside.Floors.{IsHere, known}
use Rattle.pass_jobs.proofs.Meets.{met, met_looks}
use Rattle.pass_jobs.proofs.Quiet.{nothing_quiet}
use Rattle.pass_jobs.proofs.Went.{here_quietly}
use Rattle.pass_jobs.proofs.floor.FloorHost.meet.Goals as goal

pub returns-clause-here : goal.returns-clause-here
returns-clause-here g c =
    let s = g.R.JobRoom.opened c.args.self.now.room in
    let good = g.R.Builds.PassBuilds.good s in
    let k = g.R.JobRoom.knows c.args.pass.now in
    let o = g.R.JobRoom.knows c.args.other.now in
    let j = g.R.JobRoom.knows c.meet.new.pass in (
      (
        c.meet.ensures.of.0,
        here_quietly s good (g.R.Builds.PassBuilds.stays_good s) (λ h. h ≡ []) nothing_quiet k j c.requires.0.1 (met_looks s good k o j c.meet.ensures.pass c.meet.ensures.begins c.meet.ensures.faithful c.requires.1.1.legal),
      ),
      (c.meet.ensures.of.1, subst (IsHere s good) (sym c.meet.ensures.other) c.requires.1.1),
    )

pub returns-clause-meets : goal.returns-clause-meets
returns-clause-meets g c =
    let s = g.R.JobRoom.opened c.args.self.now.room in
    met s (g.R.Builds.PassBuilds.good s) (g.R.JobRoom.knows c.args.pass.now) (g.R.JobRoom.knows c.args.other.now) (g.R.JobRoom.knows c.meet.new.pass)
    c.meet.ensures.pass c.meet.ensures.begins c.meet.ensures.faithful c.requires.0.1 c.requires.1.1.legal

pub returns-clause-other : goal.returns-clause-other
returns-clause-other g c = ap known c.meet.ensures.other
