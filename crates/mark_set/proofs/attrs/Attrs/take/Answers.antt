use Rattle.std.proofs.Common.{ap, ◌∙◌}
use Rattle.std.specs.Cmp.Lexicographic.{nat_list_cmp_total}
use Rattle.std.specs.FinMap.{slice_cmp-IsAntisymmetric, nat_cmp-IsAntisymmetric}
use Rattle.std.specs.FinMap as map
use Rattle.mark_set.proofs.Sorted.{taken_is, taken_sorted}
use Rattle.mark_set.proofs.attrs.Attrs.take.Goals as goal

pub invariant_of-self : goal.invariant_of-self
invariant_of-self c = taken_sorted nat_list_cmp_total (slice_cmp-IsAntisymmetric nat_cmp-IsAntisymmetric) c.self.inside.values.items c.take.new.values.items c.args.name.now c.self.invariant c.take.ensures

pub returns : goal.returns
returns c =
    taken_is nat_list_cmp_total (slice_cmp-IsAntisymmetric nat_cmp-IsAntisymmetric) c.self.inside.values.items c.take.new.values.items c.args.name.now c.self.invariant c.take.ensures
    ∙ ap (λ m. map.remove m c.args.name.now) c.self.view_is
