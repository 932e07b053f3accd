use Rattle.std.proofs.Common.{drop, []}
use Rattle.build_order.specs.Inside.Placings.{Holds, leads_from, left}
use Rattle.build_order.proofs.places.places_of.Given as goal

abbrev pub invariant-loop-number : goal.invariant-loop-number
invariant-loop-number l = Holds l.graph l.leads (leads_from l.number (drop l.number l.leads)) l.places

abbrev pub invariant-loop-lead : goal.invariant-loop-lead
invariant-loop-lead l = Holds l.graph l.leads [] l.places

abbrev pub decreases-loop-lead : goal.decreases-loop-lead
decreases-loop-lead l = left l.places.is_placed.items
