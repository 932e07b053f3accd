use Rattle.std.proofs.Common.{ap, sym, ◌∙◌}
use Rattle.std.specs.Prelude.{is_some}
use Rattle.std.specs.Cmp.{nat_cmp_total}
use Rattle.std.specs.FinMap.{nat_cmp-IsAntisymmetric}
use Rattle.std.specs.FinMap as map
use Rattle.save_valid.specs.Inside.Fresh.{Numbers}
use Rattle.save_valid.proofs.Labels.{get_is, copied_there}
use Rattle.save_valid.proofs.numbers.Seen.has.Goals as goal

pub returns : goal.returns
returns c =
    c.is_some.ensures ∙ copied_there c.get.result
    ∙ ap is_some (c.get.ensures.value ∙ sym (get_is nat_cmp_total nat_cmp-IsAntisymmetric c.self.inside.numbers.entries c.args.n) ∙ ap (λ (m : Numbers). map.get m c.args.n) c.self.view_is)
