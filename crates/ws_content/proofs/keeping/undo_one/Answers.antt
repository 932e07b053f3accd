use Rattle.std.proofs.Common.{refl}
use Rattle.tree_memory.specs.Spared.{left}
use Rattle.ws_content.proofs.Keeps.{back_none, put_back, put_back_behind, put_back_there}
use Rattle.ws_content.proofs.keeping.undo_one.Goals as goal

pub give_up_kept-requires : goal.give_up_kept-requires
give_up_kept-requires g c =
    put_back_there g.T.Remembers.number (left g.T.TreeRep.remembered c.args.tree.now) c.args.count c.args.marks.now c.undo_last.new.self c.in-Some.gone c.in-Some.ensures.undone c.requires

pub returns-in-None-clause-holds : goal.returns-in-None-clause-holds
returns-in-None-clause-holds g c = back_none g.T.Remembers.number (left g.T.TreeRep.remembered c.args.tree.now) c.args.marks.now c.undo_last.new.self (c.in-None.ensures.same refl)

pub returns-in-Some-clause-holds : goal.returns-in-Some-clause-holds
returns-in-Some-clause-holds g c =
    put_back g.T.Remembers.number (left g.T.TreeRep.remembered c.args.tree.now) (left g.T.TreeRep.remembered c.give_up_kept.new.tree) c.args.count c.args.marks.now c.undo_last.new.self c.in-Some.gone c.in-Some.ensures.undone c.give_up_kept.ensures.others

pub returns-in-Some-clause-behind : goal.returns-in-Some-clause-behind
returns-in-Some-clause-behind g c =
    put_back_behind g.T.Remembers.number (left g.T.TreeRep.remembered c.args.tree.now) (left g.T.TreeRep.remembered c.give_up_kept.new.tree) c.args.count c.args.marks.now c.undo_last.new.self c.in-Some.gone c.in-Some.ensures.undone c.give_up_kept.ensures.others
