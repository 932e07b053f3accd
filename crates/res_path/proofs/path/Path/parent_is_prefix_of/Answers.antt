use Rattle.std.proofs.Common.{◌∙◌}
use Rattle.res_path.specs.Paths.{parent}
use Rattle.res_path.specs.Inside.Order.{text_prefix}
use Rattle.res_path.proofs.Compared.{text_prefix-slashed}
use Rattle.res_path.proofs.path.Path.parent_is_prefix_of.Goals as goal

pub returns : goal.returns
returns c =
    let two = c.kept.ensures.form in
    c.is_prefix.ensures ∙ (λ i. text_prefix (c.kept_of_parent.ensures.bytes i) (c.kept.ensures.bytes i))
    ∙ text_prefix-slashed (parent c.args.self.now) c.args.other.now c.kept_of_parent.ensures.form two.names
