use Rattle.std.proofs.Common.{ap, sym, ◌∙◌}
use Rattle.std.specs.Prelude.{is_some}
use Rattle.std.specs.Cmp.Lexicographic.{nat_list_cmp_total}
use Rattle.std.specs.FinMap.{nat_cmp-IsAntisymmetric, slice_cmp-IsAntisymmetric}
use Rattle.std.specs.FinMap as map
use Rattle.save_valid.specs.Inside.Fresh.{Texts}
use Rattle.save_valid.proofs.Labels.{get_is, copied_there}
use Rattle.save_valid.proofs.numbers.SeenNames.has.Goals as goal

pub returns : goal.returns
returns c =
    c.is_some.ensures ∙ copied_there c.get.result
    ∙ ap is_some (c.get.ensures.value ∙ sym (get_is nat_list_cmp_total (slice_cmp-IsAntisymmetric nat_cmp-IsAntisymmetric) c.self.inside.names.entries c.args.name.now) ∙ ap (λ (m : Texts). map.get m c.args.name.now) c.self.view_is)
