use Rattle.std.proofs.Common.{[], ◌∷◌, ◌++◌, take, sym, ap, ◌∙◌, subst, arith}
use Rattle.std.proofs.lemmas.List.{take_more, take_all}
use Rattle.build_order.specs.Inside.Rows.{IsAdded}
use Rattle.build_order.proofs.Rowing.{added_none}
use Rattle.build_order.proofs.graph.add_all.Goals as goal

pub loop-name-init : goal.loop-name-init
loop-name-init c = added_none c.args.names.now c.args.from c.args.graph.now

pub add_one-requires-clause-from : goal.add_one-requires-clause-from
add_one-requires-clause-from c = omega (arith, c.requires.from, c.loop-name.invariant.as_long)

pub loop-name-preserved : goal.loop-name-preserved
loop-name-preserved c =
    let i = c.loop-name.name-index in
    let xs = c.args.references.now in
    let name = c.name-item.result in
    subst (λ ys. IsAdded c.args.names.now c.args.from ys c.args.graph.now c.add_one.new.graph) (sym (take_more xs i name c.loop-name-test.true ∙ ap (λ x. take i xs ++ x ∷ []) (sym c.name-item.is)))
    (c.in_ok-add_one.ensures (take i xs) c.args.graph.now c.loop-name.invariant)

pub returns : goal.returns
returns c = subst (λ ys. IsAdded c.args.names.now c.args.from ys c.args.graph.now c.loop-name.graph) (take_all c.loop-name.name-index c.args.references.now c.loop-name-test.false) c.loop-name.invariant
