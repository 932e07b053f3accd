use Rattle.std.proofs.Common.{ap, ◌∙◌, sym, map}
use Rattle.tree_memory.specs.Spared.{Remembered, SparedTree, left, without}
use Rattle.tree_memory.proofs.Spent.{fresh_left, same_left}
use Rattle.tree_memory.proofs.sparing.Sparing.remember.Goals as goal

pub returns-clause-fresh : goal.returns-clause-fresh
returns-clause-fresh g c =
    let r = g.T.TreeRep.remembered in
    let n = g.T.Remembers.number c.in_ok-memory.memory in
    ap (λ (v : SparedTree g.row.T.Denot). left r v n) (sym c.self.view_is) ∙ ap (λ (f : Remembered). f n) (sym c.forget_spent.ensures.left)
    ∙ fresh_left (r c.forget_spent.new.tree) (map g.T.Remembers.number c.forget_spent.new.spent.items) n c.in_ok-memory.ensures.fresh

pub returns-clause-others : goal.returns-clause-others
returns-clause-others g c k h =
    let r = g.T.TreeRep.remembered in
    let number = g.T.Remembers.number in
    ap (λ xs. without (r c.remember.new.self) (map number xs) k) c.reserve.ensures.items
    ∙ same_left (r c.forget_spent.new.tree) (r c.remember.new.self) (map number c.forget_spent.new.spent.items) (number c.in_ok-memory.memory) c.in_ok-memory.ensures.others k h
    ∙ ap (λ (f : Remembered). f k) c.forget_spent.ensures.left ∙ ap (λ (v : SparedTree g.row.T.Denot). left r v k) c.self.view_is
