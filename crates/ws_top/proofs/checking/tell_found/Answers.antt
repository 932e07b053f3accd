use Rattle.std.proofs.Common.{inl, inr, subst, ◌∙◌}
use Rattle.ws_top.specs.Outcomes.{Tells}
use Rattle.ws_top.proofs.checking.tell_found.Goals as goal

pub returns-in-Ok-clause-tells : goal.returns-in-Ok-clause-tells
returns-in-Ok-clause-tells g c = inl (subst (λ text. Tells text (g.K.Sink.written c.args.sink.now) (g.K.Sink.written c.tell.new.sink) (g.K.Sink.faults c.args.sink.now) (g.K.Sink.faults c.tell.new.sink) c.tell.result.status)
    (c.as_slice.ensures.value ∙ c.in-Ok.ensures) c.tell.ensures.tells)

pub returns-in-Err-clause-tells : goal.returns-in-Err-clause-tells
returns-in-Err-clause-tells g c = inr (c.want.ensures.status, c.want.ensures.line)
