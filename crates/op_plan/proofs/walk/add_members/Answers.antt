use Rattle.std.proofs.Common.{ap, ◌∙◌, ◌++◌}
use Rattle.res_path.specs.Paths.{is_prefix}
use Rattle.op_plan.specs.Inside.Walks.{members_after}
use Rattle.op_plan.proofs.Walked.{members_start, prefix_itself}
use Rattle.op_plan.proofs.walk.add_members.Goals as goal

pub loop-at-init : goal.loop-at-init
loop-at-init g c =
    let tree = g.T.TreeRep.tree c.args.tree.now in
    let path = c.args.path.now in
    record {
      under = ap (is_prefix path) c.in_ok-last.ensures ∙ prefix_itself path;
      found = ap (λ p. c.args.found.now ++ members_after tree path p) c.in_ok-last.ensures ∙ ap (λ es. c.args.found.now ++ es) (members_start tree path);
    }
