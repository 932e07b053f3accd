use Rattle.std.proofs.Common.{◌<◌, drop}
use Rattle.build_order.specs.Inside.Graphs.{Graph}
use Rattle.build_order.specs.Inside.Placings.{Holds, CanPlace, left}
use Rattle.build_order.proofs.places.Places.place.Given as goal

abbrev pub invariant-loop-other : goal.invariant-loop-other
invariant-loop-other l = record {
  holds : (g : Graph) → CanPlace g l.leads l.lead l.fn.self → Holds g l.leads (drop l.other-index l.other-items) l.self;
  fewer : left l.self.is_placed.items < left l.fn.self.is_placed.items;
}
