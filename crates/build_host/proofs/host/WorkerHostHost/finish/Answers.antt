use Rattle.std.proofs.Common.{map}
use Rattle.build_host.proofs.Results.{closes_at, cut_at}
use Rattle.build_host.proofs.host.WorkerHostHost.finish.Goals as goal

pub returns-clause-closed : goal.returns-clause-closed
returns-clause-closed g c = closes_at c.args.self.now.first (map (λ b. g.B.Builder.tells b) c.args.self.now.began.now.value) (map (λ b. g.B.Builder.tells b) c.args.self.now.builders.now) c.args.outcome c.args.self.now.core.now c.check_in.new.core c.close.new.core c.requires.serving c.check_in.ensures.steps c.close.result c.close.ensures.closed

pub returns-clause-cut : goal.returns-clause-cut
returns-clause-cut g c = cut_at c.args.self.now.first (map (λ b. g.B.Builder.tells b) c.args.self.now.began.now.value) (map (λ b. g.B.Builder.tells b) c.args.self.now.builders.now) c.args.outcome c.args.self.now.core.now c.check_in.new.core c.close.new.core c.requires.serving c.check_in.ensures.steps c.close.result c.close.ensures.cut
