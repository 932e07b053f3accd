use Rattle.std.proofs.Common.{sym, ap, ◌∙◌, ◌++◌}
use Rattle.std.specs.Prelude.{filter}
use Rattle.std.specs.FinMap.{get}
use Rattle.ws_elem.specs.Depths.{is_within}
use Rattle.op_kind.specs.Members.{found_at, members}
use Rattle.op_plan.proofs.Reached.{reached_split}
use Rattle.op_plan.proofs.walk.reached_below.Goals as goal

pub returns : goal.returns
returns g c =
    let tree = g.T.TreeRep.tree c.args.tree.now in
    let path = c.args.path.now in
    c.in_ok-add_within.ensures
    ∙ ap (λ es. es ++ filter (λ e. is_within c.args.depth path e.0) (members tree path)) (c.in_ok-add_at.ensures ∙ ap (λ es. es ++ found_at path (get tree path)) c.empty-found.ensures)
    ∙ sym (reached_split tree path c.args.depth)
