use Rattle.std.proofs.Common.{sym, subst}
use Rattle.op_kind.specs.Judging.{Judges}
use Rattle.proj_desc.specs.FirstCause.{first_cause}
use Rattle.op_kind.specs.Refusals.{standing_causes, fit_causes}
use Rattle.op_plan.proofs.Causes.{stops, goes_on, handed_on}
use Rattle.ws_ops.proofs.transfer.transfer.Goals as goal

pub returns-in_err-element-clause-judged : goal.returns-in_err-element-clause-judged
returns-in_err-element-clause-judged g c =
    let standing = standing_causes (g.T.TreeRep.tree c.args.tree.now) c.args.from.now c.args.to.now in
    let fit = fit_causes (g.T.TreeRep.tree c.args.tree.now) c.args.from.now c.args.to.now in
    handed_on (first_cause standing) _ c.from_residual.result c.in_err-element.field-0.0 c.from_residual.ensures.1 (λ x h. stops standing fit x h) c.in_err-element.ensures.judged

pub returns-clause-judged : goal.returns-clause-judged
returns-clause-judged g c =
    let standing = standing_causes (g.T.TreeRep.tree c.args.tree.now) c.args.from.now c.args.to.now in
    let fit = fit_causes (g.T.TreeRep.tree c.args.tree.now) c.args.from.now c.args.to.now in
    subst (λ o. Judges o c.fitting.result) (sym (goes_on standing fit c.in_ok-element.ensures.judged)) c.fitting.ensures.judged
