use Rattle.std.proofs.Common.{[], ◌∷◌, ◌++◌, map, take, sym, ap, ◌∙◌, subst}
use Rattle.std.proofs.lemmas.List.{map_more, take_all}
use Rattle.build_order.specs.Inside.Rows.{AreRows, IsAdded}
use Rattle.build_order.proofs.Rowing.{rows_none, rows_more, project_is}
use Rattle.build_order.proofs.graph.graph_of.Goals as goal

pub loop-project-init : goal.loop-project-init
loop-project-init c = rows_none c.args.names.now c.in_ok-graph.graph c.in_ok-graph.ensures

pub add_project-requires-clause-there : goal.add_project-requires-clause-there
add_project-requires-clause-there c =
    c.requires.all c.project-item.result.0 (project_is (λ p. (p.0, p.1.items)) c.args.projects.now c.loop-project.project-index c.project-item.result c.loop-project-test.true c.project-item.is)

pub loop-project-preserved : goal.loop-project-preserved
loop-project-preserved c =
    let i = c.loop-project.project-index in
    let xs = c.args.projects.now in
    let p = c.project-item.result in
    let done = c.in_ok-add_project.ensures in
    subst (λ ys. AreRows ys c.args.names.now c.add_project.new.graph)
    (sym (map_more (λ q. (q.0, q.1.items)) xs i p c.loop-project-test.true ∙ ap (λ q. map (λ r. (r.0, r.1.items)) (take i xs) ++ (q.0, q.1.items) ∷ []) (sym c.project-item.is)))
    (rows_more (map (λ r. (r.0, r.1.items)) (take i xs)) c.args.names.now c.loop-project.graph c.add_project.new.graph p.0 p.1.items done.0 c.requires.rising done.1 done.2
    (subst (λ refs. IsAdded c.args.names.now done.0 refs c.loop-project.graph c.add_project.new.graph) c.deref.ensures.value done.3) c.loop-project.invariant)

pub returns : goal.returns
returns c = subst (λ ys. AreRows (map (λ p. (p.0, p.1.items)) ys) c.args.names.now c.loop-project.graph) (take_all c.loop-project.project-index c.args.projects.now c.loop-project-test.false) c.loop-project.invariant
