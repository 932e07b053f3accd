use Rattle.std.proofs.Common.{map, sym, ap, ◌∙◌}
use Rattle.ws_durable.specs.Saved.{saved}
use Rattle.ws_core.specs.Opened.{opened_of}
use Rattle.ws_opening.specs.Opened.{opened_state}
use Rattle.ws_opening.proofs.opening.over.Goals as goal

pub begun-requires-clause-opened : goal.begun-requires-clause-opened
begun-requires-clause-opened g c = let told = map (λ b. g.B.Builder.tells b) c.args.builders in
    c.in-Ok.ensures.opened ∙ ap (λ k. opened_state k told) c.in-Ok.ensures.kept ∙ ap (λ d. opened_of (saved d) (map (λ b. b.named) told)) (sym c.requires.last)
