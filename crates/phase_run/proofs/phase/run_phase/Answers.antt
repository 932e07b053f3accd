use Rattle.std.proofs.Common.{map, refl, subst}
use Rattle.ws_core.specs.Histories.{replay}
use Rattle.build_host.specs.Laws.{builders_stay, serves_on}
use Rattle.phase_run.proofs.Served.{acts_serve, cut_acts_serve, either_serves}
use Rattle.build_host.proofs.Keeping.{still_served}
use Rattle.run_order.specs.Orders.{cancelled, scheduled, sleepers, IsPhase, IsCutPhase}
use Rattle.script_plan.specs.Plans.{jobs_plan}
use Rattle.phase_run.specs.Plans.{Made}
use Rattle.phase_run.specs.Inside.Doing.{Makes, Stops}
use Rattle.phase_run.proofs.Commands.{made_by_one}
use Rattle.phase_run.proofs.Results.{on_err, match_on}
use Rattle.phase_run.proofs.Phases.{phase_unscheduled, phase_undone, phase_uncancelled, phase_done}
use Rattle.phase_run.proofs.phase.run_phase.Goals as goal

pub work-requires-clause-served : goal.work-requires-clause-served
work-requires-clause-served g c = still_served g.M.Meanings.meaning c.args.space.now.core.opened c.schedule.new.space.core.opened (map (λ b. g.B.Builder.tells b) c.args.builders.now) (map (λ b. g.B.Builder.tells b) c.args.builders.now) c.in_ok-schedule.ensures.done.opened (builders_stay g.M.Meanings.meaning (map (λ b. g.B.Builder.tells b) c.args.builders.now)) c.requires.served

pub returns-in_err-schedule-clause-done : goal.returns-in_err-schedule-clause-done
returns-in_err-schedule-clause-done g c = on_err _ _ c.from_residual.result c.from_residual.ensures.0
    (subst (λ jobs. Stops (IsCutPhase (Made g.M.Meanings.meaning) 1 (jobs_plan jobs) (replay c.args.space.now.core.opened c.args.space.now.core.history)) c.args.space.now.core c.schedule.new.space.core) c.as_slice-jobs.ensures.jobs
    (phase_unscheduled (Made g.M.Meanings.meaning) (made_by_one g.M.Meanings.meaning) c.as_slice-jobs.result.now c.args.space.now.core c.schedule.new.space.core c.in_err-schedule.ensures.done))

pub returns-in_err-schedule-clause-serves : goal.returns-in_err-schedule-clause-serves
returns-in_err-schedule-clause-serves g c = cut_acts_serve scheduled (λ job. refl) g.M.Meanings.meaning (jobs_plan c.as_slice-jobs.result.now) c.args.space.now.core c.schedule.new.space.core (map (λ b. g.B.Builder.tells b) c.args.builders.now) c.in_err-schedule.ensures.done

pub returns-in_err-work-clause-done : goal.returns-in_err-work-clause-done
returns-in_err-work-clause-done g c = on_err _ _ c.from_residual-in_err-work.result c.from_residual-in_err-work.ensures.0
    (subst (λ jobs. Stops (IsCutPhase (Made g.M.Meanings.meaning) 1 (jobs_plan jobs) (replay c.args.space.now.core.opened c.args.space.now.core.history)) c.args.space.now.core c.work.new.space.core) c.as_slice-jobs.ensures.jobs
    (phase_undone (Made g.M.Meanings.meaning) (made_by_one g.M.Meanings.meaning) c.as_slice-jobs.result.now c.args.space.now.core c.schedule.new.space.core c.work.new.space.core c.in_ok-schedule.ensures.done c.in_err-work.ensures.done))

pub returns-clause-done : goal.returns-clause-done
returns-clause-done g c = match_on c.cancel.result
    (λ o. subst (λ jobs. Makes (IsPhase (Made g.M.Meanings.meaning) 1 (jobs_plan jobs) (replay c.args.space.now.core.opened c.args.space.now.core.history)) c.args.space.now.core c.cancel.new.space.core) c.as_slice-jobs.ensures.jobs
    (phase_done (Made g.M.Meanings.meaning) (made_by_one g.M.Meanings.meaning) c.as_slice-jobs.result.now c.args.space.now.core c.schedule.new.space.core c.work.new.space.core c.cancel.new.space.core c.in_ok-schedule.ensures.done c.in_ok-work.ensures.done.0 c.in_ok-work.ensures.done.1 o))
    (λ o. subst (λ jobs. Stops (IsCutPhase (Made g.M.Meanings.meaning) 1 (jobs_plan jobs) (replay c.args.space.now.core.opened c.args.space.now.core.history)) c.args.space.now.core c.cancel.new.space.core) c.as_slice-jobs.ensures.jobs
    (phase_uncancelled (Made g.M.Meanings.meaning) (made_by_one g.M.Meanings.meaning) c.as_slice-jobs.result.now c.args.space.now.core c.schedule.new.space.core c.work.new.space.core c.cancel.new.space.core c.in_ok-schedule.ensures.done c.in_ok-work.ensures.done.0 o))
    c.cancel.ensures.done

pub returns-in_err-work-clause-serves : goal.returns-in_err-work-clause-serves
returns-in_err-work-clause-serves g c = serves_on g.M.Meanings.meaning c.args.space.now.core c.schedule.new.space.core c.work.new.space.core (map (λ b. g.B.Builder.tells b) c.args.builders.now) (map (λ b. g.B.Builder.tells b) c.args.builders.now) (map (λ b. g.B.Builder.tells b) c.work.new.builders)
    (acts_serve scheduled (λ job. refl) g.M.Meanings.meaning (jobs_plan c.as_slice-jobs.result.now) c.args.space.now.core c.schedule.new.space.core (map (λ b. g.B.Builder.tells b) c.args.builders.now) c.in_ok-schedule.ensures.done) c.in_err-work.ensures.serves

pub returns-clause-serves : goal.returns-clause-serves
returns-clause-serves g c = serves_on g.M.Meanings.meaning c.args.space.now.core c.work.new.space.core c.cancel.new.space.core (map (λ b. g.B.Builder.tells b) c.args.builders.now) (map (λ b. g.B.Builder.tells b) c.work.new.builders) (map (λ b. g.B.Builder.tells b) c.work.new.builders)
    (serves_on g.M.Meanings.meaning c.args.space.now.core c.schedule.new.space.core c.work.new.space.core (map (λ b. g.B.Builder.tells b) c.args.builders.now) (map (λ b. g.B.Builder.tells b) c.args.builders.now) (map (λ b. g.B.Builder.tells b) c.work.new.builders) (acts_serve scheduled (λ job. refl) g.M.Meanings.meaning (jobs_plan c.as_slice-jobs.result.now) c.args.space.now.core c.schedule.new.space.core (map (λ b. g.B.Builder.tells b) c.args.builders.now) c.in_ok-schedule.ensures.done) c.in_ok-work.ensures.serves)
    (either_serves cancelled (λ job. refl) c.cancel.result g.M.Meanings.meaning (sleepers (replay c.work.new.space.core.opened c.work.new.space.core.history) (jobs_plan c.as_slice-jobs.result.now)) c.work.new.space.core c.cancel.new.space.core (map (λ b. g.B.Builder.tells b) c.work.new.builders) c.cancel.ensures.done)
