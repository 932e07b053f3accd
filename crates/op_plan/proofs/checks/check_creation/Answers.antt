use Rattle.std.proofs.Common.{◌∷◌, ◌∙◌}
use Rattle.std.specs.FinMap.{contains_key}
use Rattle.op_kind.specs.declared.refusal.OpRefusal.TheVariants.{Exists}
use Rattle.proj_desc.specs.FirstCause.{when, first_cause}
use Rattle.op_kind.specs.Refusals.{above_causes, number_causes}
use Rattle.op_kind.specs.Resources.{resources}
use Rattle.op_plan.proofs.Causes.{stops, goes_on, stops_first, handed_on}
use Rattle.op_plan.proofs.checks.check_creation.Goals as goal

pub returns-in_err-check_above-clause-judged : goal.returns-in_err-check_above-clause-judged
returns-in_err-check_above-clause-judged g c =
    let t = g.T.TreeRep.tree c.args.tree.now in
    let p = c.args.path.now in
    let above = above_causes t p in
    let numbers = number_causes (resources t c.args.side.now) 1 c.args.stamps in
    handed_on (first_cause above) _ c.from_residual.result c.in_err-check_above.field-0.0 c.from_residual.ensures.1
    (λ x h. stops above (when (contains_key t p) (Exists p) ∷ numbers) x h) c.in_err-check_above.ensures

pub returns-in_err-check_free-clause-judged : goal.returns-in_err-check_free-clause-judged
returns-in_err-check_free-clause-judged g c =
    let t = g.T.TreeRep.tree c.args.tree.now in
    let p = c.args.path.now in
    let above = above_causes t p in
    let free = when (contains_key t p) (Exists p) in
    let numbers = number_causes (resources t c.args.side.now) 1 c.args.stamps in
    handed_on free _ c.from_residual-in_err-check_free.result c.in_err-check_free.field-0.0 c.from_residual-in_err-check_free.ensures.1
    (λ x h. goes_on above (free ∷ numbers) c.in_ok-check_above.ensures ∙ stops_first free numbers x h) c.in_err-check_free.ensures
