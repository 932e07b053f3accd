use Rattle.std.proofs.Common.{map, ◌∙◌, ap}
use Rattle.ws_opening.proofs.Named.{names_told}
use Rattle.ws_opening.proofs.naming.names_of.Goals as goal

pub returns : goal.returns
returns g c = c.of.ensures ∙ c.in_ok-names.ensures ∙ ap (map (λ b. (g.B.Builder.tells b).named)) c.as_slice.ensures ∙ names_told (λ b. g.B.Builder.tells b) c.args.builders.now
