use Rattle.std.proofs.Common.{ap, ◌∙◌, subst, map, ◌∷◌, []}
use Rattle.std.proofs.lemmas.List.{map-append}
use Rattle.tree_memory.specs.Inside.{AreSpent}
use Rattle.tree_memory.proofs.Spent.{spent_pop}
use Rattle.tree_memory.proofs.sparing.forget_last.Goals as goal

pub returns-in-Ok-clause-spent : goal.returns-in-Ok-clause-spent
returns-in-Ok-clause-spent g c =
    let r = g.T.TreeRep.remembered c.args.tree.now in
    let number = g.T.Remembers.number in
    let items = c.pop.new.self.items in
    spent_pop r (g.T.TreeRep.remembered c.forget.new.self) (map number items) (number c.in-Some.memory)
    (subst (AreSpent r) (ap (map number) c.in-Some.ensures.items ∙ map-append number items (c.in-Some.memory ∷ [])) c.requires) c.in-Ok.ensures.others
