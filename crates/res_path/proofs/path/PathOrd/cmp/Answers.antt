use Rattle.std.proofs.Common.{◌∙◌}
use Rattle.res_path.specs.Inside.Order.{text_cmp}
use Rattle.res_path.proofs.Compared.{text_cmp-slashed}
use Rattle.res_path.proofs.path.PathOrd.cmp.Goals as goal

pub returns : goal.returns
returns c =
    let one = c.kept.ensures.form in
    let two = c.kept-2.ensures.form in
    c.compare.ensures ∙ (λ i. text_cmp (c.kept.ensures.bytes i) (c.kept-2.ensures.bytes i))
    ∙ text_cmp-slashed c.args.self.now c.args.other.now one.names two.names
