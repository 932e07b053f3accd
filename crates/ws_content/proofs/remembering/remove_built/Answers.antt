use Rattle.tree_memory.specs.Spared.{left}
use Rattle.ws_content.proofs.Steps.{taken, taken_there}
use Rattle.ws_content.proofs.remembering.remove_built.Goals as goal

pub give_up_built-requires : goal.give_up_built-requires
give_up_built-requires g c =
    taken_there g.T.Remembers.number (left g.T.TreeRep.remembered c.args.tree.now) c.args.marks.now (c.args.project.now, c.args.index) c.remove_built-before.result
    c.remove_built-before.ensures.found c.requires

pub returns-clause-holds : goal.returns-clause-holds
returns-clause-holds g c =
    taken g.T.Remembers.number (left g.T.TreeRep.remembered c.args.tree.now) (left g.T.TreeRep.remembered c.give_up_built.new.tree) c.args.marks.now c.remove_built-before.new.self
    (c.args.project.now, c.args.index) c.remove_built-before.result c.remove_built-before.ensures.found c.remove_built-before.ensures.rest c.give_up_built.ensures.others
