use Rattle.std.proofs.Common.{arith}
use Rattle.build_order.proofs.graph.add_project.Goals as goal

pub add_all-requires-clause-from : goal.add_all-requires-clause-from
add_all-requires-clause-from c = omega (arith, c.requires.as_long, c.in-Some.ensures.0)

pub returns-in_ok-add_all-in-Some : goal.returns-in_ok-add_all-in-Some
returns-in_ok-add_all-in-Some c = (c.in-Some.from, c.in-Some.ensures.0, c.in-Some.ensures.1, c.in_ok-add_all-in-Some.ensures)

pub returns-in-None : goal.returns-in-None
returns-in-None c = absurd (c.in-None.ensures c.requires.there)
