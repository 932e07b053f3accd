use Rattle.std.proofs.Common.{sym, ◌∙◌}
use Rattle.op_plan.proofs.Opened.{close_planned, closed_already}
use Rattle.ws_ops.proofs.projects.close.Goals as goal

pub returns-then-branch : goal.returns-then-branch
returns-then-branch g c =
    let tree = g.T.TreeRep.tree c.args.tree.now in
    let side = c.args.side.now in (
      c.in_ok-project.ensures.judged,
      closed_already tree side c.args.path.now c.nothing.result (sym c.in_ok-is_shut.ensures ∙ c.if-branch.true) c.nothing.ensures,
    )

pub returns : goal.returns
returns g c =
    let tree = g.T.TreeRep.tree c.args.tree.now in
    let side = c.args.side.now in (
      c.in_ok-project.ensures.judged,
      close_planned tree side c.args.path.now c.in_ok-project.project.now c.in_ok-plan_closing.field-0 (sym c.in_ok-is_shut.ensures ∙ c.if-branch.false) c.in_ok-project.ensures.element c.in_ok-plan_closing.ensures,
    )
