use Rattle.std.proofs.Common.{ℕ, List, Some, cond, nat_eq, ap, ◌∙◌}
use Rattle.std.specs.Map.{lookup}
use Rattle.mark_set.specs.declared.marker.Marker.{Marker}
use Rattle.std.specs.FinMap as map
use Rattle.std.specs.Cmp.{nat_cmp_total}
use Rattle.std.specs.FinMap.{nat_cmp-IsAntisymmetric}
use Rattle.mark_set.specs.Markers.{IsMarker}
use Rattle.mark_set.proofs.Ids.{one_put}
use Rattle.mark_set.proofs.Maps as maps
use Rattle.mark_set.proofs.Maps.{all_put}
use Rattle.mark_set.proofs.Orders.{ids_put}
use Rattle.mark_set.proofs.table.Table.put.Goals as goal

pub invariant_of-self-2 : goal.invariant_of-self-2
invariant_of-self-2 c =
    let es = c.self.inside.markers.entries in
    let ids = c.self.inside.ids.entries in
    rw (
      one_put es c.insert-2.new.self.entries c.args.marker.id c.args.marker (λ q. c.in_ok-insert-2.ensures.updates.0 q ∙ ap (λ (l : List (ℕ × Marker)). cond (nat_eq c.args.marker.id q) (Some c.args.marker) (lookup (nat_eq q) l)) c.reserve.ensures.entries),
      maps.one_put nat_cmp_total nat_cmp-IsAntisymmetric ids c.insert.new.self.entries c.args.marker.id tt c.in_ok-insert.ensures.updates.0,
    ) (
      all_put nat_cmp_total nat_cmp-IsAntisymmetric IsMarker (map.from_entries es) c.args.marker.id c.args.marker c.self.invariant.0 c.requires,
      ids_put (map.from_entries ids) (map.from_entries es) c.args.marker.id c.args.marker c.self.invariant.1,
    )

pub returns-clause-ok : goal.returns-clause-ok
returns-clause-ok c = one_put c.self.inside.markers.entries c.insert-2.new.self.entries c.args.marker.id c.args.marker (λ q. c.in_ok-insert-2.ensures.updates.0 q ∙ ap (λ (l : List (ℕ × Marker)). cond (nat_eq c.args.marker.id q) (Some c.args.marker) (lookup (nat_eq q) l)) c.reserve.ensures.entries) ∙ ap (λ m. map.insert m c.args.marker.id c.args.marker) c.self.view_is
