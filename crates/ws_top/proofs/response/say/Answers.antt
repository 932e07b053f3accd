use Rattle.ws_top.proofs.Fronts.{writes_of}
use Rattle.ws_top.proofs.response.say.Goals as goal

pub returns-clause-written : goal.returns-clause-written
returns-clause-written g c = writes_of (g.K.Sink.written c.args.sink.now) (g.K.Sink.written c.write_all.new.sink) (g.K.Sink.faults c.args.sink.now) (g.K.Sink.faults c.write_all.new.sink) c.args.text.now c.write_all.result c.write_all.ensures.whole c.write_all.ensures.front c.write_all.ensures.cause
