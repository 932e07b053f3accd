use Rattle.std.proofs.Common.{subst}
use Rattle.ws_top.specs.Outcomes.{Writes}
use Rattle.ws_top.proofs.response.stop.Goals as goal

pub returns-clause-line : goal.returns-clause-line
returns-clause-line g c = subst (λ line. Writes (g.K.Sink.written c.args.sink.now) (g.K.Sink.written c.say.new.sink) (g.K.Sink.faults c.args.sink.now) (g.K.Sink.faults c.say.new.sink) line) c.requires c.say.ensures.written
