use Rattle.std.proofs.Common.{◌∙◌}
use Rattle.res_path.specs.Inside.Order.{text_prefix}
use Rattle.res_path.proofs.Compared.{text_prefix-slashed}
use Rattle.res_path.proofs.path.Path.is_prefix_of.Goals as goal

pub returns : goal.returns
returns c =
    let one = c.kept.ensures.form in
    let two = c.kept-2.ensures.form in
    c.is_prefix.ensures ∙ (λ i. text_prefix (c.kept.ensures.bytes i) (c.kept-2.ensures.bytes i))
    ∙ text_prefix-slashed c.args.self.now c.args.other.now one.names two.names
