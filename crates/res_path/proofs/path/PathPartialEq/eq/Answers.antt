use Rattle.std.proofs.Common.{◌∙◌}
use Rattle.std.specs.Str.{bytes_eq}
use Rattle.res_path.proofs.Built.{bytes_eq-slashed}
use Rattle.res_path.proofs.path.PathPartialEq.eq.Goals as goal

pub returns : goal.returns
returns c =
    let one = c.kept.ensures.form in
    let two = c.kept-2.ensures.form in
    c.eq.ensures ∙ (λ i. bytes_eq (c.kept.ensures.bytes i) (c.kept-2.ensures.bytes i))
    ∙ bytes_eq-slashed c.args.self.now c.args.other.now one.names two.names
