use Rattle.std.proofs.Common.{not, Some, take, sym, ap, ◌∙◌}
use Rattle.std.specs.List.{list_any}
use Rattle.std.specs.Str.{bytes_eq}
use Rattle.save_round.proofs.Called.{first_is}
use Rattle.save_round.proofs.pass.is_first.Goals as goal

pub returns : goal.returns
returns g c =
    first_is g.P.Participant.tells c.args.all.now c.args.at c.index-all-at.result c.requires
    ∙ ap (λ b. Some (not b)) (sym (c.has_name.ensures ∙ ap (λ name. list_any (λ p. bytes_eq (g.P.Participant.tells p).named name) (take c.args.at c.args.all.now)) (c.name.ensures.value ∙ ap (λ p. (g.P.Participant.tells p).named) c.index-all-at.is)))
