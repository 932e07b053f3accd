use Rattle.build_order.proofs.Steps.{rests_meets}
use Rattle.build_order.proofs.search.Search.reach.Goals as goal

pub meet-requires-clause-meets : goal.meet-requires-clause-meets
meet-requires-clause-meets c = rests_meets c.args.graph.now c.args.self.now c.args.number c.requires.stands c.requires.rests
