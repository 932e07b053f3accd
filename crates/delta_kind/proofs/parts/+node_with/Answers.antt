use Rattle.std.proofs.Common.{◌≡◌, ◌<◌, ◌++◌, ◌∷◌, length, sym, ap, subst, ◌∙◌, arith}
use Rattle.delta_kind.specs.Deltas.{node_with, InPathOrder, paths_of}
use Rattle.delta_kind.proofs.Found.{joined, smaller, lower_order, higher_order, found_lower, found_here, found_higher}
use Rattle.delta_kind.proofs.parts.+node_with.Goals as goal

pub node_with-requires : goal.node_with-requires
node_with-requires t c =
    let all : c.args.nodes.now ≡ c.split_at.result.0.now ++ c.in-Some.node.now ∷ c.in-Some.higher.now =
    joined c.args.nodes.now c.split_at.result.0.now c.split_at.result.1.now _ c.in-Some.node.now c.in-Some.higher.now c.split_at.ensures.front c.split_at.ensures.back c.in-Some.ensures.cases.0 in
    let less : length c.split_at.result.0.now < length c.args.nodes.now = (smaller c.args.nodes.now c.split_at.result.0.now c.in-Some.node.now c.in-Some.higher.now all).0 in
    (omega (arith, c.decreases), lower_order c.split_at.result.0.now c.in-Some.node.now c.in-Some.higher.now (subst (λ nodes. InPathOrder (paths_of nodes)) all c.requires))

pub node_with-requires-in-Greater : goal.node_with-requires-in-Greater
node_with-requires-in-Greater t c =
    let all : c.args.nodes.now ≡ c.split_at.result.0.now ++ c.in-Some.node.now ∷ c.in-Some.higher.now =
    joined c.args.nodes.now c.split_at.result.0.now c.split_at.result.1.now _ c.in-Some.node.now c.in-Some.higher.now c.split_at.ensures.front c.split_at.ensures.back c.in-Some.ensures.cases.0 in
    let less : length c.in-Some.higher.now < length c.args.nodes.now = (smaller c.args.nodes.now c.split_at.result.0.now c.in-Some.node.now c.in-Some.higher.now all).1 in
    (omega (arith, c.decreases), higher_order c.split_at.result.0.now c.in-Some.node.now c.in-Some.higher.now (subst (λ nodes. InPathOrder (paths_of nodes)) all c.requires))

pub returns-in-Less : goal.returns-in-Less
returns-in-Less t c =
    let all : c.args.nodes.now ≡ c.split_at.result.0.now ++ c.in-Some.node.now ∷ c.in-Some.higher.now =
    joined c.args.nodes.now c.split_at.result.0.now c.split_at.result.1.now _ c.in-Some.node.now c.in-Some.higher.now c.split_at.ensures.front c.split_at.ensures.back c.in-Some.ensures.cases.0 in
    c.node_with.ensures
    ∙ sym (found_lower c.args.path.now c.split_at.result.0.now c.in-Some.node.now c.in-Some.higher.now (subst (λ nodes. InPathOrder (paths_of nodes)) all c.requires) (sym c.cmp.ensures ∙ c.in-Less.is))
    ∙ ap (node_with c.args.path.now) (sym all)

pub returns-in-Equal : goal.returns-in-Equal
returns-in-Equal t c =
    let all : c.args.nodes.now ≡ c.split_at.result.0.now ++ c.in-Some.node.now ∷ c.in-Some.higher.now =
    joined c.args.nodes.now c.split_at.result.0.now c.split_at.result.1.now _ c.in-Some.node.now c.in-Some.higher.now c.split_at.ensures.front c.split_at.ensures.back c.in-Some.ensures.cases.0 in
    sym (found_here c.args.path.now c.split_at.result.0.now c.in-Some.node.now c.in-Some.higher.now (subst (λ nodes. InPathOrder (paths_of nodes)) all c.requires) (sym c.cmp.ensures ∙ c.in-Equal.is))
    ∙ ap (node_with c.args.path.now) (sym all)

pub returns-in-Greater : goal.returns-in-Greater
returns-in-Greater t c =
    let all : c.args.nodes.now ≡ c.split_at.result.0.now ++ c.in-Some.node.now ∷ c.in-Some.higher.now =
    joined c.args.nodes.now c.split_at.result.0.now c.split_at.result.1.now _ c.in-Some.node.now c.in-Some.higher.now c.split_at.ensures.front c.split_at.ensures.back c.in-Some.ensures.cases.0 in
    c.node_with-in-Greater.ensures
    ∙ sym (found_higher c.args.path.now c.split_at.result.0.now c.in-Some.node.now c.in-Some.higher.now (subst (λ nodes. InPathOrder (paths_of nodes)) all c.requires) (sym c.cmp.ensures ∙ c.in-Greater.is))
    ∙ ap (node_with c.args.path.now) (sym all)
