use Rattle.std.proofs.Common.{sym, subst}
use Rattle.ws_top.specs.Inside.Opening.{Refuses}
use Rattle.ws_top.proofs.Lines.{line_5}
use Rattle.ws_top.proofs.refusal.refuse.Goals as goal

pub stop-requires : goal.stop-requires
stop-requires g c = line_5

pub returns-in-Disk-clause-told : goal.returns-in-Disk-clause-told
returns-in-Disk-clause-told g c = subst (λ e. Refuses e (g.K.Sink.written c.args.sink.now) (g.K.Sink.written c.stop.new.sink) (g.K.Sink.faults c.args.sink.now) (g.K.Sink.faults c.stop.new.sink) c.stop.result.status) (sym c.in-Disk.is) (c.stop.ensures.status, c.stop.ensures.line)

pub returns-in-Damaged-clause-told : goal.returns-in-Damaged-clause-told
returns-in-Damaged-clause-told g c = subst (λ e. Refuses e (g.K.Sink.written c.args.sink.now) (g.K.Sink.written c.say_damage.new.sink) (g.K.Sink.faults c.args.sink.now) (g.K.Sink.faults c.say_damage.new.sink) c.say_damage.result.status) (sym c.in-Damaged.is) c.say_damage.ensures.told

pub returns-in-Memory-clause-told : goal.returns-in-Memory-clause-told
returns-in-Memory-clause-told g c = subst (λ e. Refuses e (g.K.Sink.written c.args.sink.now) (g.K.Sink.written c.want.new.sink) (g.K.Sink.faults c.args.sink.now) (g.K.Sink.faults c.want.new.sink) c.want.result.status) (sym c.in-Memory.is) (c.want.ensures.status, c.want.ensures.line)
