use Rattle.tree_memory.specs.Spared.{left}
use Rattle.ws_content.proofs.Steps.{settled}
use Rattle.ws_content.proofs.remembering.settle.Goals as goal

pub returns-in-Some-clause-holds : goal.returns-in-Some-clause-holds
returns-in-Some-clause-holds g c =
    settled g.T.Remembers.number (left g.T.TreeRep.remembered c.args.tree.now) (left g.T.TreeRep.remembered c.give_up.new.self) c.args.marks.now c.tell-before.new.self
    c.tell-before.result c.in-Some.told c.args.told c.in-Some.is c.tell-before.ensures.before c.tell-before.ensures.told c.give_up.ensures.others
