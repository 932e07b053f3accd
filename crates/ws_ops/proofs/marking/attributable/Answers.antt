use Rattle.std.proofs.Common.{[], ◌∷◌}
use Rattle.std.specs.Option.{option_map}
use Rattle.mark_set.specs.Causes.{change_cause}
use Rattle.op_kind.specs.declared.refusal.OpRefusal.TheVariants.{BadValue}
use Rattle.proj_desc.specs.FirstCause.{first_cause}
use Rattle.op_kind.specs.Refusals.{unmark_causes}
use Rattle.op_plan.proofs.Causes.{stops, handed_on}
use Rattle.ws_ops.proofs.marking.attributable.Goals as goal

pub returns-in_err-element-clause-judged : goal.returns-in_err-element-clause-judged
returns-in_err-element-clause-judged g c =
    let causes = unmark_causes (g.T.TreeRep.tree c.args.tree.now) c.args.path.now c.args.id in
    handed_on (first_cause causes) _ c.from_residual.result c.in_err-element.field-0.0 c.from_residual.ensures.1
    (λ x h. stops causes (option_map BadValue (change_cause c.args.name.now c.args.value.now) ∷ []) x h) c.in_err-element.ensures.judged
