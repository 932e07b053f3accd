use Rattle.std.proofs.Common.{map}
use Rattle.build_host.specs.Laws.{serves_itself}
use Rattle.phase_run.specs.Plans.{Made}
use Rattle.phase_run.proofs.Results.{on_err}
use Rattle.phase_run.proofs.Jobs.{made_none, made_stop}
use Rattle.std.proofs.Common.{refl}
use Rattle.phase_run.proofs.worker.work.Goals as goal

pub returns-in_err-book-clause-done : goal.returns-in_err-book-clause-done
returns-in_err-book-clause-done g c = on_err _ _ c.from_residual.result c.from_residual.ensures.0
    (made_stop (Made g.M.Meanings.meaning) c.args.jobs.now c.args.space.now.core c.args.space.now.core c.args.space.now.core (made_none (Made g.M.Meanings.meaning) c.args.jobs.now c.args.space.now.core c.requires.ready) refl)

pub returns-in_err-book-clause-serves : goal.returns-in_err-book-clause-serves
returns-in_err-book-clause-serves g c = serves_itself g.M.Meanings.meaning c.args.space.now.core (map (λ b. g.B.Builder.tells b) c.args.builders.now)
