use Rattle.build_order.proofs.Placing.{can_place, all_in_turn}
use Rattle.build_order.proofs.places.places_of.Goals as goal

pub begin-requires-clause-holds : goal.begin-requires-clause-holds
begin-requires-clause-holds c = (c.args.graph.now, c.loop-number.invariant)

pub loop-number-preserved : goal.loop-number-preserved
loop-number-preserved c = c.in_ok-begin.ensures c.args.graph.now c.loop-number.invariant

pub place-requires : goal.place-requires
place-requires c = (c.args.graph.now, can_place c.args.graph.now c.args.leads.now c.loop-lead.places c.in-Some.lead c.pop.new.self c.in-Some.ensures.least c.in-Some.ensures.others c.loop-lead.invariant)

pub loop-lead-preserved : goal.loop-lead-preserved
loop-lead-preserved c = c.in_ok-place.ensures.holds c.args.graph.now (can_place c.args.graph.now c.args.leads.now c.loop-lead.places c.in-Some.lead c.pop.new.self c.in-Some.ensures.least c.in-Some.ensures.others c.loop-lead.invariant)

pub returns : goal.returns
returns c = all_in_turn c.args.graph.now c.args.leads.now c.loop-lead.places c.in_default.ensures.least c.loop-lead.invariant
