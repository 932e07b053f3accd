use Rattle.tree_memory.specs.Spared.{left}
use Rattle.ws_content.proofs.Steps.{grown, grown_ready}
use Rattle.ws_content.proofs.remembering.prepare.Goals as goal

pub returns-clause-holds : goal.returns-clause-holds
returns-clause-holds g c =
    grown g.T.Remembers.number (left g.T.TreeRep.remembered c.args.tree.now) (left g.T.TreeRep.remembered c.remember.new.self) c.args.marks.now
    (g.T.Remembers.number c.in_ok-told.told) c.in_ok-told.ensures.fresh c.in_ok-told.ensures.others

pub returns-clause-ready : goal.returns-clause-ready
returns-clause-ready g c =
    grown_ready g.T.Remembers.number (left g.T.TreeRep.remembered c.args.tree.now) (left g.T.TreeRep.remembered c.remember.new.self) c.args.marks.now
    c.in_ok-told.told (g.T.TreeRep.tree c.args.tree.now.tree) c.args.tells c.if-not-tells.false c.in_ok-told.ensures.fresh c.in_ok-told.ensures.own
