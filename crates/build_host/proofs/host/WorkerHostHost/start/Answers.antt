use Rattle.std.proofs.Common.{ap, length, map}
use Rattle.std.specs.Option.{option_copied}
use Rattle.build_host.proofs.Results.{opened_at}
use Rattle.build_host.proofs.host.WorkerHostHost.start.Goals as goal

pub returns-clause-opened : goal.returns-clause-opened
returns-clause-opened g c = opened_at c.open.result c.args.self.now.core.now c.open.new.core c.args.kind (option_copied c.args.project) c.args.self.now.first (length c.history.result.now)
    (map (λ b. g.B.Builder.tells b) c.args.self.now.began.now.value) (map (λ b. g.B.Builder.tells b) c.of.result.value) (map (λ b. g.B.Builder.tells b) c.args.self.now.builders.now)
    (ap length c.history.ensures.history) (ap (map (λ b. g.B.Builder.tells b)) c.of.ensures) c.open.ensures.opened
