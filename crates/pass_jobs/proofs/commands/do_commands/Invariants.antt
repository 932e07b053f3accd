use Rattle.std.proofs.Common.{take}
use Rattle.run_order.specs.Lists.{InTurn}
use Rattle.script_plan.specs.Plans.{Made}
use Rattle.phase_pool.specs.Passes.{Makes}
use Rattle.pass_jobs.specs.Inside.Floors.{IsHere, known}
use Rattle.pass_jobs.proofs.commands.do_commands.Given as goal

-- the commands so far are done
abbrev pub invariant-loop-index : goal.invariant-loop-index
invariant-loop-index g l =
    g.R.JobRoom.is_of l.room l.pass × IsHere (g.R.JobRoom.opened l.room) (g.R.Builds.PassBuilds.good (g.R.JobRoom.opened l.room)) (g.R.JobRoom.knows l.pass)
    × Makes (InTurn (Made (g.R.Builds.PassBuilds.makes (g.R.JobRoom.opened l.room)) (g.R.JobRoom.knows l.fn.pass).number) (take l.index l.commands)) (known (g.R.JobRoom.knows l.fn.pass)) (known (g.R.JobRoom.knows l.pass))
