use Rattle.std.proofs.Common.{subst, sym}
use Rattle.tree_memory.specs.Spared.{left}
use Rattle.std.specs.Option.{option_map}
use Rattle.ws_content.specs.States.{with_built}
use Rattle.ws_content.specs.Deeds.{forgotten}
use Rattle.ws_content.specs.Inside.Held.{Holds}
use Rattle.ws_content.proofs.operating.forget.Goals as goal

pub returns-in-Some-clause-holds : goal.returns-in-Some-clause-holds
returns-in-Some-clause-holds g c start v h =
    subst (λ o. Holds g.T.Remembers.number start (left g.T.TreeRep.remembered c.forget_built.new.tree) c.forget_built.new.marks (with_built v (forgotten (option_map (λ f. (f.project, f.index)) o) v.built)))
    (sym c.in-Some.is) (c.forget_built.ensures.holds start v h)
