use Rattle.std.proofs.Common.{ap, map, sym, ◌∙◌, subst}
use Rattle.std.specs.Prelude.{MatchResult}
use Rattle.run_order.specs.Lists.{Cut}
use Rattle.script_plan.specs.declared.plan.Asked.TheVariants.{Build}
use Rattle.script_plan.specs.Plans.{AskedEntries}
use Rattle.phase_run.specs.Inside.Doing.{Stops, Works}
use Rattle.script_plan.proofs.Commands.{asked_one}
use Rattle.build_host.specs.Builds.{IsBuild}
use Rattle.build_host.specs.Laws.{serves_quietly}
use Rattle.phase_run.proofs.Served.{event_serves}
use Rattle.phase_run.proofs.worker.do_asked.Goals as goal

pub returns-in-Build-default-None-clause-done : goal.returns-in-Build-default-None-clause-done
returns-in-Build-default-None-clause-done g c = subst
    (λ x. MatchResult c.do_build.result (λ _. Works (AskedEntries (IsBuild g.M.Meanings.meaning) 1 x) c.args.space.now.core c.do_build.new.space.core) (λ _. Stops (Cut (AskedEntries (IsBuild g.M.Meanings.meaning) 1 x)) c.args.space.now.core c.do_build.new.space.core))
    (sym (c.in-Build-default-None.is ∙ ap (Build c.in-Build-default-None.kind) c.in-Build-default-None.field-1-is)) c.do_build.ensures.done

pub returns-in-Build-default-Some-clause-done : goal.returns-in-Build-default-Some-clause-done
returns-in-Build-default-Some-clause-done g c = let made = c.do_build-in-Build-default-Some in subst
    (λ x. MatchResult made.result (λ _. Works (AskedEntries (IsBuild g.M.Meanings.meaning) 1 x) c.args.space.now.core made.new.space.core) (λ _. Stops (Cut (AskedEntries (IsBuild g.M.Meanings.meaning) 1 x)) c.args.space.now.core made.new.space.core))
    (sym (c.in-Build-default-Some.is ∙ ap (Build c.in-Build-default-Some.kind) c.in-Build-default-Some.field-1-is)) made.ensures.done

pub returns-in-One-clause-serves : goal.returns-in-One-clause-serves
returns-in-One-clause-serves g c = event_serves c.do_event.result g.M.Meanings.meaning c.in-One.event c.args.space.now.core c.do_event.new.space.core (map (λ b. g.B.Builder.tells b) c.args.builders.now)
    (asked_one c.args.asked c.in-One.event c.in-One.is c.requires.asked).command c.do_event.ensures.done

pub returns-in-Save-clause-done : goal.returns-in-Save-clause-done
returns-in-Save-clause-done g c = subst
    (λ x. MatchResult c.do_save.result (λ _. Works (AskedEntries (IsBuild g.M.Meanings.meaning) 1 x) c.args.space.now.core c.do_save.new.space.core) (λ _. Stops (Cut (AskedEntries (IsBuild g.M.Meanings.meaning) 1 x)) c.args.space.now.core c.do_save.new.space.core))
    (sym c.in-Save.is) c.do_save.ensures.done

pub returns-in-Save-clause-serves : goal.returns-in-Save-clause-serves
returns-in-Save-clause-serves g c = let quiet = c.do_save.ensures.quiet in
    serves_quietly g.M.Meanings.meaning c.args.space.now.core c.do_save.new.space.core (map (λ b. g.B.Builder.tells b) c.args.builders.now) quiet.0 c.do_save.ensures.opened quiet.1 quiet.2
