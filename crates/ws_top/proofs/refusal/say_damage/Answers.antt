use Rattle.std.proofs.Common.{inl, inr, ◌++◌, ap, subst, ◌∙◌}
use Rattle.area_text.specs.Damages.{damage_line}
use Rattle.ws_top.specs.Outcomes.{Writes}
use Rattle.ws_top.proofs.refusal.say_damage.Goals as goal

pub returns-in-Ok-clause-told : goal.returns-in-Ok-clause-told
returns-in-Ok-clause-told g c = inl (
  c.say.ensures.status,
  subst (λ text. Writes (g.K.Sink.written c.args.sink.now) (g.K.Sink.written c.say.new.sink) (g.K.Sink.faults c.args.sink.now) (g.K.Sink.faults c.say.new.sink) text)
      (c.as_slice.ensures.value ∙ c.in-Ok.ensures ∙ ap (λ before. before ++ damage_line c.args.damage) c.new-text.ensures.items) c.say.ensures.written,
)

pub returns-clause-told : goal.returns-clause-told
returns-clause-told g c = inr (c.want.ensures.status, c.want.ensures.line)
