use Rattle.std.proofs.Common.{sym, ap, ◌∙◌, ◌++◌}
use Rattle.std.specs.FinMap.{get}
use Rattle.op_kind.specs.Members.{found_at, members}
use Rattle.op_plan.proofs.Walked.{branch_split}
use Rattle.op_plan.proofs.walk.branch.Goals as goal

pub returns : goal.returns
returns g c =
    let tree = g.T.TreeRep.tree c.args.tree.now in
    let path = c.args.path.now in
    c.in_ok-add_members.ensures ∙ ap (λ es. es ++ members tree path) (c.in_ok-add_at.ensures ∙ ap (λ es. es ++ found_at path (get tree path)) c.empty-found.ensures) ∙ sym (branch_split tree path)
