use Rattle.std.proofs.Common.{refl}
use Rattle.tree_memory.specs.Spared.{left}
use Rattle.ws_content.proofs.Keeps.{ends_none, let_go, let_go_there}
use Rattle.ws_content.proofs.keeping.let_go_one.Goals as goal

pub give_up_kept-requires : goal.give_up_kept-requires
give_up_kept-requires g c =
    let_go_there g.T.Remembers.number (left g.T.TreeRep.remembered c.args.tree.now) c.args.marks.now c.take_replaced.new.self c.in-Some.last c.in-Some.ensures.last c.requires

pub returns-in-None-clause-holds : goal.returns-in-None-clause-holds
returns-in-None-clause-holds g c = ends_none g.T.Remembers.number (left g.T.TreeRep.remembered c.args.tree.now) c.args.marks.now c.take_replaced.new.self (c.in-None.ensures.same refl)

pub returns-in-Some-clause-holds : goal.returns-in-Some-clause-holds
returns-in-Some-clause-holds g c =
    let_go g.T.Remembers.number (left g.T.TreeRep.remembered c.args.tree.now) (left g.T.TreeRep.remembered c.give_up_kept.new.tree) c.args.marks.now c.take_replaced.new.self c.in-Some.last c.in-Some.ensures.last c.give_up_kept.ensures.others
