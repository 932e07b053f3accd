use Rattle.ws_content.proofs.operating.tell.Goals as goal

pub settle-requires : goal.settle-requires
settle-requires g c = (c.requires.0, c.requires.1, c.in_ok-replied.ensures.holds c.requires.0 c.requires.1 c.requires.2)

pub returns-clause-holds : goal.returns-clause-holds
returns-clause-holds g c start v h =
    c.settle.ensures.holds start v (g.T.TreeRep.tree c.args.tree.now.tree) c.args.tells (c.in_ok-replied.ensures.holds start v h) (c.in_ok-replied.ensures.ready start v h)
