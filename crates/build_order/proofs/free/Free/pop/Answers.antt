use Rattle.build_order.proofs.FreeSets.{all_above}
use Rattle.build_order.proofs.free.Free.pop.Goals as goal

pub returns-clause-others : goal.returns-clause-others
returns-clause-others c = all_above c.pop_first.result c.pop_first.new.self.keys c.pop_first.ensures.all_above
