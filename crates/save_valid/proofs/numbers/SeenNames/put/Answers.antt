use Rattle.std.proofs.Common.{ap, ◌∙◌}
use Rattle.std.specs.Cmp.Lexicographic.{nat_list_cmp_total}
use Rattle.std.specs.FinMap.{nat_cmp-IsAntisymmetric, slice_cmp-IsAntisymmetric}
use Rattle.std.specs.FinMap as map
use Rattle.save_valid.proofs.Labels.{one_put}
use Rattle.save_valid.proofs.numbers.SeenNames.put.Goals as goal

pub returns : goal.returns
returns c = one_put nat_list_cmp_total (slice_cmp-IsAntisymmetric nat_cmp-IsAntisymmetric) c.self.inside.names.entries c.insert.new.self.entries c.args.name tt c.in_ok-insert.ensures.updates.0 ∙ ap (λ m. map.insert m c.args.name tt) c.self.view_is
