use Rattle.std.proofs.Common.{subst}
use Rattle.std.specs.Prelude.{IfSome}
use Rattle.std.specs.FinMap.{len}
use Rattle.layer_log.specs.Records.{Leads}
use Rattle.elem_tree.specs.Layers.{tree_at}
use Rattle.elem_tree.proofs.Since.{counted, if_ok, if_some, meets_none, net_since}
use Rattle.elem_tree.proofs.tree.LayerTree.between.Goals as goal

pub then-requires : goal.then-requires
then-requires g c = meets_none c.none.result c.in_ok-changes.changes c.none.ensures

pub returns-clause-net : goal.returns-clause-net
returns-clause-net g c =
    if_ok c.then.result c.then.ensures.net (λ d net.
    if_some _ (subst (λ m. IfSome (tree_at c.args.self.now m) (λ t. Leads t c.in_ok-changes.changes c.args.self.now.map)) c.number.ensures c.in_ok-changes.ensures.leads) (λ t leads. net_since c.none.result c.in_ok-changes.changes d c.args.self.now.map t c.none.ensures net leads))

pub returns-clause-counted : goal.returns-clause-counted
returns-clause-counted g c =
    counted c.then.result c.none.result (len c.in_ok-changes.changes) c.args.steps.now c.then.new.steps c.none.ensures c.then.ensures.most c.then.ensures.cost
