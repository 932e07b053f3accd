use Rattle.std.proofs.Common.{◌∙◌, ap}
use Rattle.std.specs.Prelude.{Some}
use Rattle.tree_memory.specs.Spared.{SparedTree, left}
use Rattle.ws_content.proofs.Calls.{opened_holds}
use Rattle.ws_content.proofs.opening.as_it_is.Goals as goal

pub returns-clause-holds : goal.returns-clause-holds
returns-clause-holds g c =
    let first = ap (λ (s : SparedTree g.row.T.Denot). g.T.TreeRep.tree s.tree) c.of-tree.ensures in
    opened_holds g.T.Remembers.number (left g.T.TreeRep.remembered c.remember.new.self) (left g.T.TreeRep.remembered c.remember-2.new.self) c.in_ok-start.start c.in_ok-told.told c.of.result
    (g.T.TreeRep.tree c.args.tree) (c.in_ok-start.ensures.own ∙ ap Some first) c.in_ok-told.ensures.fresh (c.in_ok-told.ensures.own ∙ ap Some (c.in_ok-start.ensures.tree ∙ first))
    c.in_ok-told.ensures.others c.of.ensures

pub returns-clause-tree : goal.returns-clause-tree
returns-clause-tree g c =
    let first = ap (λ (s : SparedTree g.row.T.Denot). g.T.TreeRep.tree s.tree) c.of-tree.ensures in
    c.in_ok-told.ensures.tree ∙ c.in_ok-start.ensures.tree ∙ first
