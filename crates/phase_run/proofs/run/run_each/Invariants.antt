use Rattle.std.proofs.Common.{◌≡◌, map, take}
use Rattle.build_host.specs.Hosts.{Serves}
use Rattle.script_plan.specs.Plans.{phases_plan}
use Rattle.phase_run.specs.Plans.{Made}
use Rattle.phase_run.specs.Inside.Running.{RunsPhases}
use Rattle.phase_run.proofs.run.run_each.Given as goal

-- the phases so far are run and told
abbrev pub invariant-loop-phase : goal.invariant-loop-phase
invariant-loop-phase g l = RunsPhases (Made g.M.Meanings.meaning) (take l.phase-index (phases_plan l.phases)) l.fn.space.core l.space.core (map (λ x. g.L.Listener.heard x) l.fn.listeners) (map (λ x. g.L.Listener.heard x) l.listeners)
    × Serves g.M.Meanings.meaning l.fn.space.core l.space.core (map (λ b. g.B.Builder.tells b) l.fn.builders) (map (λ b. g.B.Builder.tells b) l.builders)
    × (l.space.keeper.began ≡ l.fn.space.keeper.began) × (l.space.began ≡ l.fn.space.began)
