use Rattle.std.proofs.Common.{◌∙◌, refl, map, subst}
use Rattle.run_order.specs.Lists.{Cut}
use Rattle.build_host.specs.Laws.{serves_itself, serves_on}
use Rattle.build_host.proofs.Keeping.{still_served}
use Rattle.phase_run.specs.Plans.{Made}
use Rattle.phase_run.specs.Inside.Doing.{Stops, Works}
use Rattle.phase_run.proofs.Results.{on_err}
use Rattle.phase_run.proofs.Commands.{some_made}
use Rattle.phase_run.proofs.Commanded.{works_none, works_next, works_stop, works_all}
use Rattle.phase_run.proofs.worker.do_commands.Goals as goal

pub loop-command-init : goal.loop-command-init
loop-command-init g c = (works_none (Made g.M.Meanings.meaning) (some_made g.M.Meanings.meaning) c.args.commands.now c.args.space.now.core c.requires.work, serves_itself g.M.Meanings.meaning c.args.space.now.core (map (λ b. g.B.Builder.tells b) c.args.builders.now), refl, refl)

pub do_command-requires-clause-work : goal.do_command-requires-clause-work
do_command-requires-clause-work g c = c.loop-command.invariant.0.at_work

pub do_command-requires-clause-served : goal.do_command-requires-clause-served
do_command-requires-clause-served g c = still_served g.M.Meanings.meaning c.args.space.now.core.opened c.loop-command.space.core.opened (map (λ b. g.B.Builder.tells b) c.args.builders.now) (map (λ b. g.B.Builder.tells b) c.loop-command.builders) c.loop-command.invariant.1.opened c.loop-command.invariant.1.stays c.requires.served

pub loop-command-preserved : goal.loop-command-preserved
loop-command-preserved g c = (
  works_next (Made g.M.Meanings.meaning) (some_made g.M.Meanings.meaning) c.args.commands.now c.loop-command.command-index c.command-item.result c.args.space.now.core c.loop-command.space.core c.do_command.new.space.core c.loop-command-test.true c.loop-command.invariant.0
      (subst (λ x. Works (Made g.M.Meanings.meaning 1 x) c.loop-command.space.core c.do_command.new.space.core) c.command-item.is c.in_ok-do_command.ensures.done),
  serves_on g.M.Meanings.meaning c.args.space.now.core c.loop-command.space.core c.do_command.new.space.core (map (λ b. g.B.Builder.tells b) c.args.builders.now) (map (λ b. g.B.Builder.tells b) c.loop-command.builders) (map (λ b. g.B.Builder.tells b) c.do_command.new.builders) c.loop-command.invariant.1 c.in_ok-do_command.ensures.serves,
  c.in_ok-do_command.ensures.start.0 ∙ c.loop-command.invariant.2,
  c.in_ok-do_command.ensures.start.1 ∙ c.loop-command.invariant.3,
)

pub returns-in_err-do_command-clause-done : goal.returns-in_err-do_command-clause-done
returns-in_err-do_command-clause-done g c = on_err _ _ c.from_residual.result c.from_residual.ensures.0
    (works_stop (Made g.M.Meanings.meaning) (some_made g.M.Meanings.meaning) c.args.commands.now c.loop-command.command-index c.command-item.result c.args.space.now.core c.loop-command.space.core c.do_command.new.space.core c.loop-command-test.true c.loop-command.invariant.0
    (subst (λ x. Stops (Cut (Made g.M.Meanings.meaning 1 x)) c.loop-command.space.core c.do_command.new.space.core) c.command-item.is c.in_err-do_command.ensures.done))

pub returns-in_err-do_command-clause-serves : goal.returns-in_err-do_command-clause-serves
returns-in_err-do_command-clause-serves g c = serves_on g.M.Meanings.meaning c.args.space.now.core c.loop-command.space.core c.do_command.new.space.core (map (λ b. g.B.Builder.tells b) c.args.builders.now) (map (λ b. g.B.Builder.tells b) c.loop-command.builders) (map (λ b. g.B.Builder.tells b) c.do_command.new.builders) c.loop-command.invariant.1 c.in_err-do_command.ensures.serves

pub returns-clause-done : goal.returns-clause-done
returns-clause-done g c = works_all (Made g.M.Meanings.meaning) (some_made g.M.Meanings.meaning) c.args.commands.now c.loop-command.command-index c.args.space.now.core c.loop-command.space.core c.loop-command-test.false c.loop-command.invariant.0

pub returns-clause-serves : goal.returns-clause-serves
returns-clause-serves g c = c.loop-command.invariant.1
