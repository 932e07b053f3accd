use Rattle.std.proofs.Common.{ap, ◌∙◌, sym, subst}
use Rattle.ws_turn.specs.Inside.Steps.{Agrees, handed_on}
use Rattle.ws_turn.proofs.Passes.{agrees_on}
use Rattle.ws_turn.proofs.steps.hand_back.Goals as goal

pub serve_next-requires-clause-held : goal.serve_next-requires-clause-held
serve_next-requires-clause-held g c =
    let told = c.raise_for.ensures.raised c.requires.more.0 c.requires.more.1.list_is in
    let put = c.put_in.ensures.put in (
      ap (λ z. z.0.spent) put ∙ (ap (λ z. z.0.spent) told ∙ c.requires.live.0),
      (c.args.value, ap (λ z. z.0.held) put ∙ ap (λ z. z.0.held) told, ap (λ z. z.1) put),
    )

pub returns-clause-agrees : goal.returns-clause-agrees
returns-clause-agrees g c =
    let list = g.S.Logged.list in
    let base = g.S.Logged.base in
    let by = g.S.Logged.by in
    let deals = g.S.Logged.gives in
    let told = c.raise_for.ensures.agrees in
    let same = ap (λ z. z.0) c.serve_next.ensures.on ∙ ap (λ z. handed_on list base by deals z.0) c.put_in.ensures.put in
    subst (Agrees list base by deals) (sym same) (agrees_on list base by deals c.raise_for.new.chair.me.0 told.0 told.1)
