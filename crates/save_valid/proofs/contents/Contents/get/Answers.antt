use Rattle.std.proofs.Common.{ap, sym, ◌∙◌}
use Rattle.std.specs.Cmp.{nat_cmp_total}
use Rattle.std.specs.FinMap.{nat_cmp-IsAntisymmetric}
use Rattle.std.specs.FinMap as map
use Rattle.save_valid.specs.Inside.Contents.{Known}
use Rattle.save_valid.proofs.Labels.{get_is}
use Rattle.save_valid.proofs.contents.Contents.get.Goals as goal

pub returns : goal.returns
returns c =
    c.get.ensures.value ∙ sym (get_is nat_cmp_total nat_cmp-IsAntisymmetric c.self.inside.table.entries c.args.stamp) ∙ ap (λ (m : Known). map.get m c.args.stamp) c.self.view_is
