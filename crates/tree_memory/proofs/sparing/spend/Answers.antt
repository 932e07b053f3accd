use Rattle.std.proofs.Common.{ap, ◌∙◌, sym, subst, map, ◌∷◌, []}
use Rattle.std.proofs.lemmas.List.{map-append}
use Rattle.tree_memory.specs.Inside.{AreSpent}
use Rattle.tree_memory.proofs.Spent.{spent_push}
use Rattle.tree_memory.proofs.sparing.spend.Goals as goal

pub returns-in_default-clause-spent : goal.returns-in_default-clause-spent
returns-in_default-clause-spent g c =
    let r = g.T.TreeRep.remembered c.args.tree.now in
    let number = g.T.Remembers.number in
    let items = c.args.spent.now.items in
    subst (AreSpent r) (sym (ap (map number) c.in_default.ensures.items ∙ map-append number items (c.args.memory ∷ [])))
    (spent_push r (map number items) (number c.args.memory) c.requires.spent c.requires.there)
