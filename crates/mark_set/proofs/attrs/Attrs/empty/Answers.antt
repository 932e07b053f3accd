use Rattle.std.specs.Cmp.Lexicographic.{nat_list_cmp_total}
use Rattle.std.specs.FinMap.{slice_cmp-IsAntisymmetric, nat_cmp-IsAntisymmetric}
use Rattle.mark_set.proofs.Sorted.{none_is}
use Rattle.mark_set.proofs.attrs.Attrs.empty.Goals as goal

pub returns : goal.returns
returns c = rw c.new.ensures.items (none_is nat_list_cmp_total (slice_cmp-IsAntisymmetric nat_cmp-IsAntisymmetric))
