use Rattle.std.proofs.Common.{[], ◌++◌, get_or, set, ap, refl, ◌∙◌}
use Rattle.build_order.proofs.Grouping.{targets_more}
use Rattle.build_order.proofs.groups.targets_of.Goals as goal

pub loop-number-preserved : goal.loop-number-preserved
loop-number-preserved c =
    let n = c.loop-number.number in
    let leads = c.args.leads.now in
    let l = get_or leads n 0 in
    let targets = c.loop-number.targets in
    targets_more c.args.graph.now leads targets c.extend.new.self n l (c.requires.leads n 0 c.loop-number-test.true) refl
    (c.in_ok-extend.ensures ∙ ap (λ xs. set targets l (get_or targets l [] ++ xs)) c.at.ensures) c.loop-number.invariant
