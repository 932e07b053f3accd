use Rattle.std.proofs.Common.{ap, ◌∙◌, rules}
use Rattle.std.specs.FinMap as map
use Rattle.std.specs.Cmp.{nat_cmp_total}
use Rattle.std.specs.FinMap.{nat_cmp-IsAntisymmetric}
use Rattle.mark_set.specs.Markers.{IsMarker}
use Rattle.mark_set.proofs.Ids.{one_taken, get_is}
use Rattle.mark_set.proofs.Maps as maps
use Rattle.mark_set.proofs.Maps.{all_taken}
use Rattle.mark_set.proofs.Orders.{ids_taken}
use Rattle.mark_set.proofs.table.Table.take.Goals as goal

pub invariant_of-self : goal.invariant_of-self
invariant_of-self c =
    let es = c.self.inside.markers.entries in
    let ids = c.self.inside.ids.entries in
    rw (
      one_taken es c.swap_remove.new.self.entries c.args.id c.swap_remove.ensures.updates.0,
      maps.one_taken nat_cmp_total nat_cmp-IsAntisymmetric ids c.remove.new.self.entries c.args.id c.remove.ensures.updates.0,
    ) (
      all_taken nat_cmp_total nat_cmp-IsAntisymmetric IsMarker (map.from_entries es) c.args.id c.self.invariant.0,
      ids_taken (map.from_entries ids) (map.from_entries es) c.args.id c.self.invariant.1,
    )

pub returns-clause-taken : goal.returns-clause-taken
returns-clause-taken c = one_taken c.self.inside.markers.entries c.swap_remove.new.self.entries c.args.id c.swap_remove.ensures.updates.0 ∙ ap (λ m. map.remove m c.args.id) c.self.view_is

pub returns-clause-was : goal.returns-clause-was
returns-clause-was c = rw (← c.self.view_is, get_is c.self.inside.markers.entries c.args.id, ← c.swap_remove.ensures.value) (search rules)
