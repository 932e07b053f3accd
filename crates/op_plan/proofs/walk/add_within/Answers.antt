use Rattle.std.proofs.Common.{[], ◌∷◌, ◌++◌, arith, length, sym, ap, ◌∙◌}
use Rattle.std.specs.Prelude.{filter, if◌then◌else◌}
use Rattle.res_path.specs.Paths.{Names, is_prefix}
use Rattle.ws_elem.specs.declared.element.Element.{Element}
use Rattle.ws_elem.specs.Depths.{is_within}
use Rattle.op_kind.specs.Members.{is_below}
use Rattle.op_plan.specs.Inside.Walks.{entries_after, members_after}
use Rattle.op_plan.proofs.Reached.{reached_step}
use Rattle.op_plan.proofs.Skipped.{begins_through, first_kept, none_more, same_reach}
use Rattle.op_plan.proofs.Walked.{members_start, prefix_itself}
use Rattle.op_plan.proofs.walk.add_within.Goals as goal

pub loop-at-init : goal.loop-at-init
loop-at-init g c =
    let tree = g.T.TreeRep.tree c.args.tree.now in
    let path = c.args.path.now in
    record {
      under = ap (is_prefix path) c.in_ok-last.ensures ∙ prefix_itself path;
      found = ap (λ p. c.args.found.now ++ filter (λ e. is_within c.args.depth path e.0) (members_after tree path p)) c.in_ok-last.ensures
          ∙ ap (λ es. c.args.found.now ++ filter (λ e. is_within c.args.depth path e.0) es) (members_start tree path);
    }

pub loop-at-preserved : goal.loop-at-preserved
loop-at-preserved g c =
    let tree = g.T.TreeRep.tree c.args.tree.now in
    let path = c.args.path.now in
    let depth = c.args.depth in
    let entry : Names × Element = (c.in-Some.at.now, c.in-Some.element.now) in
    let last = c.in_ok-last-2.last in
    let below = first_kept (λ e. is_below path e.0) (entries_after tree c.loop-at.last) entry (members_after tree path entry.0) c.in-Some.ensures.left in
    record {
      under = begins_through path entry.0 last c.in-Some.ensures.under c.in_ok-last-2.ensures.under;
      found = ap (λ es. es ++ filter (λ e. is_within depth path e.0) (members_after tree path last)) c.in_ok-add_where.ensures
          ∙ ap (λ es. (c.loop-at.found ++ (if c.is_within.result then entry ∷ [] else [])) ++ es)
          (same_reach depth tree path entry.0 last below c.in_ok-last-2.ensures.under c.in_ok-last-2.ensures.all)
          ∙ reached_step depth path c.is_within.result c.loop-at.found entry (members_after tree path entry.0) c.is_within.ensures
          ∙ ap (λ es. c.loop-at.found ++ filter (λ e. is_within depth path e.0) es) (sym c.in-Some.ensures.left)
          ∙ c.loop-at.invariant.found;
    }

pub loop-at-smaller : goal.loop-at-smaller
loop-at-smaller g c =
    let tree = g.T.TreeRep.tree c.args.tree.now in
    let path = c.args.path.now in
    let fewer = none_more tree path c.in-Some.at.now c.in_ok-last-2.last c.in_ok-last-2.ensures.under in
    let left = ap length c.in-Some.ensures.left in
    omega arith
