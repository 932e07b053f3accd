use Rattle.std.proofs.Common.{ap, ◌∙◌}
use Rattle.std.specs.Cmp.{nat_cmp_total}
use Rattle.std.specs.FinMap.{nat_cmp-IsAntisymmetric}
use Rattle.std.specs.FinMap as map
use Rattle.save_valid.proofs.Labels.{one_put}
use Rattle.save_valid.proofs.contents.Contents.put.Goals as goal

pub returns : goal.returns
returns c =
    one_put nat_cmp_total nat_cmp-IsAntisymmetric c.self.inside.table.entries c.insert.new.self.entries c.args.stamp c.args.bytes c.in_ok-insert.ensures.updates.0
    ∙ ap (λ m. map.insert m c.args.stamp c.args.bytes) c.self.view_is
