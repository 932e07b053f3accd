use Rattle.std.proofs.Common.{inl, inr, subst, ◌∙◌}
use Rattle.script_lang.specs.Scripts.{IsScript}
use Rattle.script_gen.specs.Generated.{generated}
use Rattle.ws_top.specs.Outcomes.{Tells}
use Rattle.ws_top.proofs.generating.tell_script.Goals as goal

pub returns-in-Ok-clause-tells : goal.returns-in-Ok-clause-tells
returns-in-Ok-clause-tells g c = record {
  told = inl (subst (λ text. Tells text (g.K.Sink.written c.args.sink.now) (g.K.Sink.written c.tell.new.sink) (g.K.Sink.faults c.args.sink.now) (g.K.Sink.faults c.tell.new.sink) c.tell.result.status)
      (c.as_slice.ensures.value ∙ c.in-Ok.ensures.text) c.tell.ensures.tells);
  spelled = λ _. subst (λ text. IsScript text (generated c.args.number)) c.in-Ok.ensures.text c.in-Ok.ensures.back;
}

pub returns-in-Err-clause-tells : goal.returns-in-Err-clause-tells
returns-in-Err-clause-tells g c = record { told = inr (c.want.ensures.status, c.want.ensures.line); spelled = λ other. absurd (other c.want.ensures.status) }
