use Rattle.std.proofs.Common.{◌≡◌, map, subst}
use Rattle.std.specs.Option.{option_copied}
use Rattle.ws_core.specs.Histories.{replay}
use Rattle.ws_core.specs.Sessions.{Session}
use Rattle.run_order.specs.Lists.{Cut}
use Rattle.build_host.specs.Builds.{IsBuild}
use Rattle.phase_run.proofs.Builds.{build_calm}
use Rattle.phase_run.proofs.Results.{on_err, ok_on}
use Rattle.phase_run.proofs.Commanded.{ended_build, ready_to_build, stopped_build}
use Rattle.phase_run.proofs.worker.do_build.Goals as goal

pub build-requires : goal.build-requires
build-requires g c = ready_to_build g.M.Meanings.meaning c.args.space.now.core (map (λ b. g.B.Builder.tells b) c.args.builders.now) c.requires.served (subst (λ (x : Session). x.state ≡ replay x.opened x.history) c.core.ensures c.settle.ensures.placed) c.requires.work

pub returns-in_err-answer-clause-done : goal.returns-in_err-answer-clause-done
returns-in_err-answer-clause-done g c = on_err _ _ c.from_residual.result c.from_residual.ensures.0
    (stopped_build (Cut (IsBuild g.M.Meanings.meaning 1 c.args.kind (option_copied c.args.project))) c.args.space.now.core c.build.new.self.core c.in_err-answer.ensures.cut c.in_err-answer.ensures.goes c.requires.work)

pub returns-clause-done : goal.returns-clause-done
returns-clause-done g c = ended_build (IsBuild g.M.Meanings.meaning 1 c.args.kind (option_copied c.args.project)) c.ended.result c.args.space.now.core c.build.new.self.core c.in_ok-answer.ensures.made c.in_ok-answer.ensures.home c.in_ok-answer.ensures.goes
    (ok_on c.ended.result
    (build_calm g.M.Meanings.meaning c.args.kind (option_copied c.args.project) c.args.space.now.core c.build.new.self.core 0 c.in_ok-answer.ensures.answered.0 (map (λ b. g.B.Builder.tells b) c.args.builders.now) c.in_ok-answer.ensures.answered.1
    (map (λ b. g.B.Builder.tells b) c.args.builders.now) (map (λ b. g.B.Builder.tells b) c.build.new.builders) c.in_ok-answer.ensures.goes (subst (λ (x : Session). x.state ≡ replay x.opened x.history) c.core.ensures c.settle.ensures.placed) c.in_ok-answer.answer c.in_ok-answer.ensures.answered.2) c.ended.ensures.other)
    c.requires.work
