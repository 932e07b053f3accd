use Rattle.std.proofs.Common.{◌≡◌, length, sym, ap, ◌∙◌}
use Rattle.ws_elem.specs.Trees.{branch}
use Rattle.op_kind.specs.Numbers.{stamps_of_all}
use Rattle.proj_desc.specs.FirstCause.{first_cause}
use Rattle.op_kind.specs.Refusals.{transfer_causes, number_causes}
use Rattle.op_kind.specs.Resources.{Resources, resources}
use Rattle.op_plan.proofs.Carried.{carried_numbers}
use Rattle.op_plan.proofs.Causes.{stops, goes_on, handed_on, told_on}
use Rattle.ws_ops.proofs.transfer.copyable.Goals as goal

pub returns-in_err-_members-clause-judged : goal.returns-in_err-_members-clause-judged
returns-in_err-_members-clause-judged g c =
    let r : Resources = resources (g.T.TreeRep.tree c.args.tree.now) c.args.side.now in
    let transfer = transfer_causes r.tree c.args.from.now c.args.to.now in
    let copied = branch r.tree c.args.from.now in
    handed_on (first_cause transfer) _ c.from_residual.result c.in_err-_members.field-0.0 c.from_residual.ensures.1
    (λ x h. stops transfer (number_causes r (length copied) (stamps_of_all copied)) x h) c.in_err-_members.ensures.judged

pub returns-in_err-check_numbers-clause-judged : goal.returns-in_err-check_numbers-clause-judged
returns-in_err-check_numbers-clause-judged g c =
    let r : Resources = resources (g.T.TreeRep.tree c.args.tree.now) c.args.side.now in
    let from = c.args.from.now in
    let to = c.args.to.now in
    let transfer = transfer_causes r.tree from to in
    let copied = branch r.tree from in
    let is = c.in_ok-_members.ensures.carried in
    let numbers : first_cause (number_causes r c.len.result c.stamps_of_all-stamps.result) ≡ first_cause (number_causes r (length copied) (stamps_of_all copied)) =
    (λ i. first_cause (number_causes r ((c.len.ensures ∙ ap length is) i) ((c.stamps_of_all-stamps.ensures ∙ ap stamps_of_all is) i)))
    ∙ ap first_cause (carried_numbers r from to copied) in
    told_on (first_cause (number_causes r c.len.result c.stamps_of_all-stamps.result)) _ c.from_residual-in_err-check_numbers.result c.in_err-check_numbers.field-0.0
    c.from_residual-in_err-check_numbers.ensures.1
    (λ h. goes_on transfer (number_causes r (length copied) (stamps_of_all copied)) c.in_ok-_members.ensures.judged ∙ sym numbers ∙ h) c.in_err-check_numbers.ensures.judged

pub returns-clause-judged : goal.returns-clause-judged
returns-clause-judged g c =
    let r : Resources = resources (g.T.TreeRep.tree c.args.tree.now) c.args.side.now in
    let from = c.args.from.now in
    let to = c.args.to.now in
    let transfer = transfer_causes r.tree from to in
    let copied = branch r.tree from in
    let is = c.in_ok-_members.ensures.carried in
    let numbers : first_cause (number_causes r c.len.result c.stamps_of_all-stamps.result) ≡ first_cause (number_causes r (length copied) (stamps_of_all copied)) =
    (λ i. first_cause (number_causes r ((c.len.ensures ∙ ap length is) i) ((c.stamps_of_all-stamps.ensures ∙ ap stamps_of_all is) i)))
    ∙ ap first_cause (carried_numbers r from to copied) in
    goes_on transfer (number_causes r (length copied) (stamps_of_all copied)) c.in_ok-_members.ensures.judged ∙ sym numbers ∙ c.in_ok-check_numbers.ensures.judged
