use Rattle.std.proofs.Common.{◌≡◌, refl, subst}
use Rattle.ws_core.specs.Histories.{replay}
use Rattle.ws_core.specs.Sessions.{Session}
use Rattle.phase_run.proofs.Commanded.{ready_there}
use Rattle.phase_run.proofs.Jobs.{took}
use Rattle.phase_run.proofs.worker.take.Goals as goal

pub step-requires : goal.step-requires
step-requires g c = record { entered = ready_there c.args.space.now.core.state c.requires; plain = refl }

pub returns-clause-done : goal.returns-clause-done
returns-clause-done g c = let e = c.in_ok-reply.ensures in
    took c.args.space.now.core c.step.new.self.core c.in_ok-reply.reply c.job_of.result c.requires (subst (λ (x : Session). x.state ≡ replay x.opened x.history) c.core.ensures c.settle.ensures.placed) e.reply c.job_of.ensures e.opened e.state e.history
