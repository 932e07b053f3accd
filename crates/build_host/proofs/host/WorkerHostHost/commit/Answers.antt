use Rattle.std.proofs.Common.{map}
use Rattle.build_host.proofs.Results.{taken_at}
use Rattle.build_host.proofs.host.WorkerHostHost.commit.Goals as goal

pub returns-clause-taken : goal.returns-clause-taken
returns-clause-taken g c = taken_at c.commit.result c.args.self.now.core.now c.commit.new.core c.args.edits c.args.self.now.first (map (λ b. g.B.Builder.tells b) c.args.self.now.began.now.value) (map (λ b. g.B.Builder.tells b) c.args.self.now.builders.now) c.requires.ready.1 c.commit.ensures.taken
