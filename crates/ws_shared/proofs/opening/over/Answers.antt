use Rattle.std.proofs.Common.{refl, sym, ap, ◌∙◌, subst}
use Rattle.ws_core.specs.Histories.{replay}
use Rattle.ws_core.specs.Sessions.{IsConsistent, Session}
use Rattle.ws_shared.proofs.opening.over.Goals as goal

pub of-requires-clause-vowed : goal.of-requires-clause-vowed
of-requires-clause-vowed g c = c.requires.vowed _ refl

pub returns-in-Ok-clause-sound : goal.returns-in-Ok-clause-sound
returns-in-Ok-clause-sound g c =
    subst (λ (x : Session). IsConsistent x.opened) (sym c.in-Ok.ensures.opening.0)
    (subst IsConsistent (c.state.ensures.replayed ∙ ap (replay c.args.fresh.core.opened) c.requires.history) c.state.ensures.sound)

pub returns-in-Ok-clause-first : goal.returns-in-Ok-clause-first
returns-in-Ok-clause-first g c = ap (λ (x : Session). x.opened.manager) c.in-Ok.ensures.opening.0 ∙ c.requires.first
