use Rattle.std.proofs.Common.{sym, ◌∙◌}
use Rattle.op_plan.proofs.Opened.{open_planned, open_already}
use Rattle.ws_ops.proofs.projects.open.Goals as goal

pub returns-then-not-branch : goal.returns-then-not-branch
returns-then-not-branch g c =
    let tree = g.T.TreeRep.tree c.args.tree.now in
    let side = c.args.side.now in (
      c.in_ok-project.ensures.judged,
      open_already tree side c.args.path.now c.nothing.result (sym c.in_ok-is_shut.ensures ∙ c.if-not-branch.true) c.nothing.ensures,
    )

pub returns : goal.returns
returns g c =
    let tree = g.T.TreeRep.tree c.args.tree.now in
    let side = c.args.side.now in (
      c.in_ok-project.ensures.judged,
      open_planned tree side c.args.path.now c.in_ok-project.project.now c.in_ok-plan_opening.field-0 (sym c.in_ok-is_shut.ensures ∙ c.if-not-branch.false) c.in_ok-project.ensures.element c.in_ok-plan_opening.ensures,
    )
