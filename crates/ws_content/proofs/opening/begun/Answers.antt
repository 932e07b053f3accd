use Rattle.std.proofs.Common.{true, ◌∙◌, refl, subst}
use Rattle.tree_memory.specs.Spared.{left}
use Rattle.ws_content.specs.States.{Remembered}
use Rattle.ws_content.specs.Inside.Held.{Holds}
use Rattle.ws_content.proofs.Begun.{restarts, start_there}
use Rattle.ws_content.proofs.Steps.{grown, grown_ready}
use Rattle.ws_content.proofs.opening.begun.Goals as goal

pub give_up-requires : goal.give_up-requires
give_up-requires g c =
    start_there g.T.Remembers.number (left g.T.TreeRep.remembered c.args.opened.tree) (left g.T.TreeRep.remembered c.remember.new.self) c.args.opened.marks
    (g.T.Remembers.number c.args.opened.start) (g.T.Remembers.number c.in_ok-start.start) c.in_ok-start.ensures.fresh c.in_ok-start.ensures.others c.requires.0 c.requires.1

pub settle-requires : goal.settle-requires
settle-requires g c =
    let number = g.T.Remembers.number in
    let n = number c.in_ok-start.start in
    let v = c.requires.0 in
    let t = g.T.TreeRep.tree c.args.opened.tree.tree in
    let begun : Remembered = record v { start = t } in
    let b = left g.T.TreeRep.remembered c.give_up.new.self in
    let first = restarts number (left g.T.TreeRep.remembered c.args.opened.tree) (left g.T.TreeRep.remembered c.remember.new.self) b c.args.opened.marks (number c.args.opened.start) n t
    c.in_ok-start.ensures.fresh c.in_ok-start.ensures.own c.in_ok-start.ensures.others c.give_up.ensures.others v c.requires.1 in
    (n, begun, grown number b (left g.T.TreeRep.remembered c.remember-2.new.self) c.args.opened.marks (number c.in_ok-told.told) c.in_ok-told.ensures.fresh c.in_ok-told.ensures.others n begun first)

pub returns-clause-holds : goal.returns-clause-holds
returns-clause-holds g c v h =
    let number = g.T.Remembers.number in
    let n = number c.in_ok-start.start in
    let t = g.T.TreeRep.tree c.args.opened.tree.tree in
    let u = g.T.TreeRep.tree c.give_up.new.self.tree in
    let begun : Remembered = record v { start = t } in
    let b = left g.T.TreeRep.remembered c.give_up.new.self in
    let d = left g.T.TreeRep.remembered c.remember-2.new.self in
    let told = c.in_ok-told.ensures in
    let first = restarts number (left g.T.TreeRep.remembered c.args.opened.tree) (left g.T.TreeRep.remembered c.remember.new.self) b c.args.opened.marks (number c.args.opened.start) n t
    c.in_ok-start.ensures.fresh c.in_ok-start.ensures.own c.in_ok-start.ensures.others c.give_up.ensures.others v h in
    let next = grown number b d c.args.opened.marks (number c.in_ok-told.told) told.fresh told.others n begun first in
    let ready = grown_ready number b d c.args.opened.marks c.in_ok-told.told u true refl told.fresh told.own n begun first in
    subst (λ x. Holds number n (left g.T.TreeRep.remembered c.settle.new.tree) c.settle.new.marks (record v { start = t; told = x }))
    (c.give_up.ensures.tree ∙ c.in_ok-start.ensures.tree)
    (c.settle.ensures.holds n begun u true next ready)

pub returns-clause-tree : goal.returns-clause-tree
returns-clause-tree g c = c.settle.ensures.tree ∙ c.in_ok-told.ensures.tree ∙ c.give_up.ensures.tree ∙ c.in_ok-start.ensures.tree
