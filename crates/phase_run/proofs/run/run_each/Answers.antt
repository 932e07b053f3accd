use Rattle.std.proofs.Common.{◌∙◌, refl, map, subst}
use Rattle.build_host.specs.Laws.{serves_itself, serves_on}
use Rattle.build_host.proofs.Keeping.{still_served}
use Rattle.phase_run.specs.Inside.Running.{RunsPhase, CutsPhase}
use Rattle.phase_run.proofs.Results.{on_err}
use Rattle.phase_run.proofs.Runs.{runs_none, runs_next, runs_cut, runs_all}
use Rattle.script_plan.specs.Plans.{phases_plan}
use Rattle.phase_run.specs.Plans.{Made}
use Rattle.phase_run.proofs.run.run_each.Goals as goal

pub loop-phase-init : goal.loop-phase-init
loop-phase-init g c = (runs_none (Made g.M.Meanings.meaning) (phases_plan c.args.phases.now) c.args.space.now.core (map (λ l. g.L.Listener.heard l) c.args.listeners.now) c.requires.ready, serves_itself g.M.Meanings.meaning c.args.space.now.core (map (λ b. g.B.Builder.tells b) c.args.builders.now), refl, refl)

pub run_and_tell-requires-clause-served : goal.run_and_tell-requires-clause-served
run_and_tell-requires-clause-served g c = still_served g.M.Meanings.meaning c.args.space.now.core.opened c.loop-phase.space.core.opened (map (λ b. g.B.Builder.tells b) c.args.builders.now) (map (λ b. g.B.Builder.tells b) c.loop-phase.builders) c.loop-phase.invariant.1.opened c.loop-phase.invariant.1.stays c.requires.served

pub loop-phase-preserved : goal.loop-phase-preserved
loop-phase-preserved g c = (
  runs_next (Made g.M.Meanings.meaning) c.args.phases.now c.loop-phase.phase-index c.phase-item.result c.args.space.now.core c.loop-phase.space.core c.run_and_tell.new.space.core
      (map (λ l. g.L.Listener.heard l) c.args.listeners.now) (map (λ l. g.L.Listener.heard l) c.loop-phase.listeners) (map (λ l. g.L.Listener.heard l) c.run_and_tell.new.listeners) c.loop-phase-test.true c.loop-phase.invariant.0
      (subst (λ x. RunsPhase (Made g.M.Meanings.meaning) x c.loop-phase.space.core c.run_and_tell.new.space.core (map (λ l. g.L.Listener.heard l) c.loop-phase.listeners) (map (λ l. g.L.Listener.heard l) c.run_and_tell.new.listeners)) c.phase-item.is c.in_ok-run_and_tell.ensures.done),
  serves_on g.M.Meanings.meaning c.args.space.now.core c.loop-phase.space.core c.run_and_tell.new.space.core (map (λ b. g.B.Builder.tells b) c.args.builders.now) (map (λ b. g.B.Builder.tells b) c.loop-phase.builders) (map (λ b. g.B.Builder.tells b) c.run_and_tell.new.builders) c.loop-phase.invariant.1 c.in_ok-run_and_tell.ensures.serves,
  c.in_ok-run_and_tell.ensures.start.0 ∙ c.loop-phase.invariant.2,
  c.in_ok-run_and_tell.ensures.start.1 ∙ c.loop-phase.invariant.3,
)

pub returns-in_err-run_and_tell-clause-done : goal.returns-in_err-run_and_tell-clause-done
returns-in_err-run_and_tell-clause-done g c = on_err _ _ c.from_residual.result c.from_residual.ensures.0
    (runs_cut (Made g.M.Meanings.meaning) c.args.phases.now c.loop-phase.phase-index c.phase-item.result c.args.space.now.core c.loop-phase.space.core c.run_and_tell.new.space.core
    (map (λ l. g.L.Listener.heard l) c.args.listeners.now) (map (λ l. g.L.Listener.heard l) c.loop-phase.listeners) (map (λ l. g.L.Listener.heard l) c.run_and_tell.new.listeners) c.loop-phase-test.true c.loop-phase.invariant.0
    (subst (λ x. CutsPhase (Made g.M.Meanings.meaning) x c.loop-phase.space.core c.run_and_tell.new.space.core (map (λ l. g.L.Listener.heard l) c.loop-phase.listeners) (map (λ l. g.L.Listener.heard l) c.run_and_tell.new.listeners)) c.phase-item.is c.in_err-run_and_tell.ensures.done))

pub returns-in_err-run_and_tell-clause-serves : goal.returns-in_err-run_and_tell-clause-serves
returns-in_err-run_and_tell-clause-serves g c = serves_on g.M.Meanings.meaning c.args.space.now.core c.loop-phase.space.core c.run_and_tell.new.space.core (map (λ b. g.B.Builder.tells b) c.args.builders.now) (map (λ b. g.B.Builder.tells b) c.loop-phase.builders) (map (λ b. g.B.Builder.tells b) c.run_and_tell.new.builders) c.loop-phase.invariant.1 c.in_err-run_and_tell.ensures.serves

pub returns-clause-done : goal.returns-clause-done
returns-clause-done g c = runs_all (Made g.M.Meanings.meaning) c.args.phases.now c.loop-phase.phase-index c.args.space.now.core c.loop-phase.space.core (map (λ l. g.L.Listener.heard l) c.args.listeners.now) (map (λ l. g.L.Listener.heard l) c.loop-phase.listeners) c.loop-phase-test.false c.loop-phase.invariant.0

pub returns-clause-serves : goal.returns-clause-serves
returns-clause-serves g c = c.loop-phase.invariant.1
