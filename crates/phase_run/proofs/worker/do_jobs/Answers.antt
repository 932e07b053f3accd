use Rattle.std.proofs.Common.{refl, ap, ◌∙◌, map, subst}
use Rattle.run_order.specs.Plans.{commands_of}
use Rattle.build_host.specs.Laws.{serves_itself, serves_on}
use Rattle.build_host.proofs.Keeping.{still_served}
use Rattle.phase_run.proofs.Served.{none_serves, same_serves, take_serves}
use Rattle.script_plan.specs.Plans.{jobs_plan}
use Rattle.phase_run.specs.Plans.{Made}
use Rattle.phase_run.specs.Inside.Doing.{Takes}
use Rattle.phase_run.proofs.Results.{on_err}
use Rattle.phase_run.proofs.Jobs.{made_none, made_more, made_cut, made_stop, made_all}
use Rattle.phase_run.proofs.worker.do_jobs.Goals as goal

pub loop-name-init : goal.loop-name-init
loop-name-init g c = (made_none (Made g.M.Meanings.meaning) c.args.book.now c.args.space.now.core c.requires.ready, serves_itself g.M.Meanings.meaning c.args.space.now.core (map (λ b. g.B.Builder.tells b) c.args.builders.now), refl, refl)

pub loop-name-preserved : goal.loop-name-preserved
loop-name-preserved g c = (
  made_more (Made g.M.Meanings.meaning) c.args.book.now c.args.space.now.core c.loop-name.space.core c.take.new.space.core c.do_job.new.space.core c.in-Some.name c.commands.result.now c.loop-name.invariant.0
      (subst (λ o. Takes o c.loop-name.space.core c.take.new.space.core) c.in-Some.is c.in_ok-name.ensures.done) (c.commands.ensures ∙ ap (commands_of (jobs_plan c.args.book.now)) c.value.ensures) c.in_ok-do_job.ensures.done,
  serves_on g.M.Meanings.meaning c.args.space.now.core c.take.new.space.core c.do_job.new.space.core (map (λ b. g.B.Builder.tells b) c.args.builders.now) (map (λ b. g.B.Builder.tells b) c.loop-name.builders) (map (λ b. g.B.Builder.tells b) c.do_job.new.builders)
      (serves_on g.M.Meanings.meaning c.args.space.now.core c.loop-name.space.core c.take.new.space.core (map (λ b. g.B.Builder.tells b) c.args.builders.now) (map (λ b. g.B.Builder.tells b) c.loop-name.builders) (map (λ b. g.B.Builder.tells b) c.loop-name.builders) c.loop-name.invariant.1 (take_serves g.M.Meanings.meaning c.in-Some.name c.loop-name.space.core c.take.new.space.core (map (λ b. g.B.Builder.tells b) c.loop-name.builders) (subst (λ o. Takes o c.loop-name.space.core c.take.new.space.core) c.in-Some.is c.in_ok-name.ensures.done)))
      c.in_ok-do_job.ensures.serves,
  c.in_ok-do_job.ensures.start.0 ∙ (c.in_ok-name.ensures.start.0 ∙ c.loop-name.invariant.2),
  c.in_ok-do_job.ensures.start.1 ∙ (c.in_ok-name.ensures.start.1 ∙ c.loop-name.invariant.3),
)

pub returns-in_err-name-clause-done : goal.returns-in_err-name-clause-done
returns-in_err-name-clause-done g c = on_err _ _ c.from_residual.result c.from_residual.ensures.0 (made_stop (Made g.M.Meanings.meaning) c.args.book.now c.args.space.now.core c.loop-name.space.core c.take.new.space.core c.loop-name.invariant.0 c.in_err-name.ensures.done)

pub returns-in_err-do_job-clause-done : goal.returns-in_err-do_job-clause-done
returns-in_err-do_job-clause-done g c = on_err _ _ c.from_residual-in_err-do_job.result c.from_residual-in_err-do_job.ensures.0
    (made_cut (Made g.M.Meanings.meaning) c.args.book.now c.args.space.now.core c.loop-name.space.core c.take.new.space.core c.do_job.new.space.core c.in-Some.name c.commands.result.now c.loop-name.invariant.0
    (subst (λ o. Takes o c.loop-name.space.core c.take.new.space.core) c.in-Some.is c.in_ok-name.ensures.done) (c.commands.ensures ∙ ap (commands_of (jobs_plan c.args.book.now)) c.value.ensures) c.in_err-do_job.ensures.done)

pub returns-in_err-do_job-clause-serves : goal.returns-in_err-do_job-clause-serves
returns-in_err-do_job-clause-serves g c = serves_on g.M.Meanings.meaning c.args.space.now.core c.take.new.space.core c.do_job.new.space.core (map (λ b. g.B.Builder.tells b) c.args.builders.now) (map (λ b. g.B.Builder.tells b) c.loop-name.builders) (map (λ b. g.B.Builder.tells b) c.do_job.new.builders)
    (serves_on g.M.Meanings.meaning c.args.space.now.core c.loop-name.space.core c.take.new.space.core (map (λ b. g.B.Builder.tells b) c.args.builders.now) (map (λ b. g.B.Builder.tells b) c.loop-name.builders) (map (λ b. g.B.Builder.tells b) c.loop-name.builders) c.loop-name.invariant.1 (take_serves g.M.Meanings.meaning c.in-Some.name c.loop-name.space.core c.take.new.space.core (map (λ b. g.B.Builder.tells b) c.loop-name.builders) (subst (λ o. Takes o c.loop-name.space.core c.take.new.space.core) c.in-Some.is c.in_ok-name.ensures.done)))
    c.in_err-do_job.ensures.serves

pub returns-clause-done : goal.returns-clause-done
returns-clause-done g c = made_all (Made g.M.Meanings.meaning) c.args.book.now c.args.space.now.core c.loop-name.space.core c.take.new.space.core c.loop-name.invariant.0 (subst (λ o. Takes o c.loop-name.space.core c.take.new.space.core) c.in_default.is c.in_ok-name.ensures.done)

pub returns-in_err-name-clause-serves : goal.returns-in_err-name-clause-serves
returns-in_err-name-clause-serves g c = serves_on g.M.Meanings.meaning c.args.space.now.core c.loop-name.space.core c.take.new.space.core (map (λ b. g.B.Builder.tells b) c.args.builders.now) (map (λ b. g.B.Builder.tells b) c.loop-name.builders) (map (λ b. g.B.Builder.tells b) c.loop-name.builders) c.loop-name.invariant.1 (same_serves g.M.Meanings.meaning c.loop-name.space.core c.take.new.space.core (map (λ b. g.B.Builder.tells b) c.loop-name.builders) c.in_err-name.ensures.done)

pub returns-clause-serves : goal.returns-clause-serves
returns-clause-serves g c = serves_on g.M.Meanings.meaning c.args.space.now.core c.loop-name.space.core c.take.new.space.core (map (λ b. g.B.Builder.tells b) c.args.builders.now) (map (λ b. g.B.Builder.tells b) c.loop-name.builders) (map (λ b. g.B.Builder.tells b) c.loop-name.builders) c.loop-name.invariant.1
    (none_serves g.M.Meanings.meaning c.loop-name.space.core c.take.new.space.core (map (λ b. g.B.Builder.tells b) c.loop-name.builders) (subst (λ o. Takes o c.loop-name.space.core c.take.new.space.core) c.in_default.is c.in_ok-name.ensures.done))

pub do_job-requires-clause-work : goal.do_job-requires-clause-work
do_job-requires-clause-work g c = (subst (λ o. Takes o c.loop-name.space.core c.take.new.space.core) c.in-Some.is c.in_ok-name.ensures.done).at_work

pub do_job-requires-clause-served : goal.do_job-requires-clause-served
do_job-requires-clause-served g c = let s = (serves_on g.M.Meanings.meaning c.args.space.now.core c.loop-name.space.core c.take.new.space.core (map (λ b. g.B.Builder.tells b) c.args.builders.now) (map (λ b. g.B.Builder.tells b) c.loop-name.builders) (map (λ b. g.B.Builder.tells b) c.loop-name.builders) c.loop-name.invariant.1 (take_serves g.M.Meanings.meaning c.in-Some.name c.loop-name.space.core c.take.new.space.core (map (λ b. g.B.Builder.tells b) c.loop-name.builders) (subst (λ o. Takes o c.loop-name.space.core c.take.new.space.core) c.in-Some.is c.in_ok-name.ensures.done))) in still_served g.M.Meanings.meaning c.args.space.now.core.opened c.take.new.space.core.opened (map (λ b. g.B.Builder.tells b) c.args.builders.now) (map (λ b. g.B.Builder.tells b) c.loop-name.builders) s.opened s.stays c.requires.served
