use Rattle.std.specs.Cmp.Lexicographic.{nat_list_cmp_total}
use Rattle.std.specs.FinMap.{slice_cmp-IsAntisymmetric, nat_cmp-IsAntisymmetric}
use Rattle.std.proofs.lemmas.Slice.Eq.{slice_eq-Decides}
use Rattle.mark_set.specs.Attributes.{same_attribute-Decides}
use Rattle.mark_set.proofs.Sorted.{same_is}
use Rattle.mark_set.proofs.attrs.Attrs.is_same.Goals as goal

pub returns : goal.returns
returns c =
    let one = c.self.inside.values.items in
    let two = c.other.inside.values.items in
    rw (← c.self.view_is, ← c.other.view_is)
    (same_is nat_list_cmp_total (slice_cmp-IsAntisymmetric nat_cmp-IsAntisymmetric) one two c.eq.result c.self.invariant c.other.invariant
    (slice_eq-Decides same_attribute-Decides one two c.eq.result c.eq.ensures))
