use Rattle.std.proofs.Common.{◌≡◌, map, take}
use Rattle.std.specs.List.{flat_map, filter}
use Rattle.build_order.specs.Orders.{is_knot}
use Rattle.build_order.specs.Inside.Rows.{group_of}
use Rattle.build_order.proofs.answer.told.Given as goal

abbrev pub invariant-loop-lead : goal.invariant-loop-lead
invariant-loop-lead l = record {
  order : l.order.items ≡ flat_map (λ g. g) (map (group_of l.names l.members) (take l.lead-index l.places));
  knots : l.knots.items ≡ filter is_knot (map (group_of l.names l.members) (take l.lead-index l.places));
}
