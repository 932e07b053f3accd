use Rattle.std.proofs.Common.{map, refl, subst, sym}
use Rattle.std.specs.Prelude.{MatchResult}
use Rattle.run_order.specs.Lists.{Cut}
use Rattle.script_plan.specs.Plans.{AskedEntries, IsAskable}
use Rattle.phase_run.specs.Plans.{Made}
use Rattle.phase_run.specs.Inside.Doing.{Stops, Works}
use Rattle.phase_run.proofs.Commanded.{not_begun}
use Rattle.script_plan.proofs.Commands.{askable}
use Rattle.phase_run.proofs.Commands.{some_made}
use Rattle.phase_run.proofs.Results.{on_err}
use Rattle.build_host.specs.Builds.{IsBuild}
use Rattle.build_host.specs.Laws.{serves_itself}
use Rattle.phase_run.proofs.worker.do_command.Goals as goal

pub do_asked-requires-clause-asked : goal.do_asked-requires-clause-asked
do_asked-requires-clause-asked g c = subst IsAskable (sym c.in_ok-asked.ensures) (askable c.args.command.now)

pub returns-in_err-asked-clause-done : goal.returns-in_err-asked-clause-done
returns-in_err-asked-clause-done g c = on_err _ _ c.from_residual.result c.from_residual.ensures.0
    (not_begun (Made g.M.Meanings.meaning 1 c.args.command.now) c.args.space.now.core c.args.space.now.core (some_made g.M.Meanings.meaning c.args.command.now) refl c.requires.work)

pub returns-clause-done : goal.returns-clause-done
returns-clause-done g c = subst (λ x. MatchResult c.do_asked.result (λ _. Works (AskedEntries (IsBuild g.M.Meanings.meaning) 1 x) c.args.space.now.core c.do_asked.new.space.core) (λ _. Stops (Cut (AskedEntries (IsBuild g.M.Meanings.meaning) 1 x)) c.args.space.now.core c.do_asked.new.space.core))
    c.in_ok-asked.ensures c.do_asked.ensures.done

pub returns-in_err-asked-clause-serves : goal.returns-in_err-asked-clause-serves
returns-in_err-asked-clause-serves g c = serves_itself g.M.Meanings.meaning c.args.space.now.core (map (λ b. g.B.Builder.tells b) c.args.builders.now)
