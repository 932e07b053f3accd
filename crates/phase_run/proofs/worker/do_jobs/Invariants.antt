use Rattle.std.proofs.Common.{◌≡◌, map}
use Rattle.run_order.specs.Parts.{Parts}
use Rattle.run_order.specs.Counts.{left}
use Rattle.build_host.specs.Hosts.{Serves}
use Rattle.script_plan.specs.Plans.{jobs_plan}
use Rattle.phase_run.specs.Plans.{Made}
use Rattle.phase_run.specs.Inside.Doing.{Makes}
use Rattle.phase_run.proofs.worker.do_jobs.Given as goal

-- the jobs that were taken are done
abbrev pub invariant-loop-name : goal.invariant-loop-name
invariant-loop-name g l = Makes (Parts (Made g.M.Meanings.meaning) (jobs_plan l.book) 1) l.fn.space.core l.space.core × Serves g.M.Meanings.meaning l.fn.space.core l.space.core (map (λ b. g.B.Builder.tells b) l.fn.builders) (map (λ b. g.B.Builder.tells b) l.builders)
    × (l.space.keeper.began ≡ l.fn.space.keeper.began) × (l.space.began ≡ l.fn.space.began)

-- each turn takes one that was left
abbrev pub decreases-loop-name : goal.decreases-loop-name
decreases-loop-name g l = left l.space.core.state
