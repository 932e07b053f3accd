use Rattle.std.proofs.Common.{◌∙◌}
use Rattle.build_plan.proofs.Commanded.{is_ordered, order_once, order_commanded}
use Rattle.build_plan.proofs.planning.plan_of_all.Goals as goal

pub with_commands-requires : goal.with_commands-requires
with_commands-requires g c =
    let t = g.T.TreeRep.tree c.args.tree.now in
    let is = is_ordered t _ c.in_ok-placed.placed.order c.in_ok-placed.placed.knots c.in_ok-placed.ensures.only (c.as_slice.ensures ∙ c.in_ok-projects.ensures.projects) in
    order_once t c.as_slice-3.result.now (c.as_slice-3.ensures ∙ is.0)

pub returns : goal.returns
returns g c =
    let t = g.T.TreeRep.tree c.args.tree.now in
    let is = is_ordered t _ c.in_ok-placed.placed.order c.in_ok-placed.placed.knots c.in_ok-placed.ensures.only (c.as_slice.ensures ∙ c.in_ok-projects.ensures.projects) in
    let order = order_commanded t c.in_ok-projects.field-0.commands c.as_slice-3.result.now c.in_ok-order.order c.in_ok-projects.ensures.commands (c.as_slice-3.ensures ∙ is.0) c.in_ok-order.ensures in
    let knots = c.in_ok-knots.ensures ∙ c.as_slice-2.ensures ∙ is.1 in
    λ i. record { order = order i; knots = knots i }
