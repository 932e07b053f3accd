use Rattle.std.proofs.Common.{sym, ap, ◌∙◌, nat_cmp}
use Rattle.std.specs.FinMap as map
use Rattle.std.specs.Map.{keys_of}
use Rattle.std.specs.Cmp.{nat_cmp_total}
use Rattle.std.specs.FinMap.{nat_cmp-IsAntisymmetric}
use Rattle.mark_set.proofs.Builds.{same_keys}
use Rattle.mark_set.proofs.Maps.{entries_is}
use Rattle.mark_set.proofs.Orders.{all_there, all_markers}
use Rattle.mark_set.proofs.table.Table.walk.Goals as goal

pub invariant_of-result : goal.invariant_of-result
invariant_of-result c =
    let marks = map.from_entries {R = nat_cmp} c.self.inside.markers.entries in
    let ids = map.from_entries {R = nat_cmp} c.self.inside.ids.entries in
    let is = entries_is nat_cmp_total nat_cmp-IsAntisymmetric c.self.inside.ids.entries c.iter.ensures.ordered in
    rw (c.iter.ensures.rest, ← is) (all_there ids marks c.self.invariant.1)

pub returns : goal.returns
returns c =
    let marks = map.from_entries {R = nat_cmp} c.self.inside.markers.entries in
    let ids = map.from_entries {R = nat_cmp} c.self.inside.ids.entries in
    let is = entries_is nat_cmp_total nat_cmp-IsAntisymmetric c.self.inside.ids.entries c.iter.ensures.ordered in
    all_markers marks c.iter.result (ap (λ l. keys_of l) (c.iter.ensures.rest ∙ sym is) ∙ same_keys ids marks c.self.invariant.1)
    ∙ ap (λ m. map.values m) c.self.view_is
