use Rattle.std.proofs.Common.{sym, ◌∙◌}
use Rattle.std.specs.Map.Iter.{deref_pair}
use Rattle.op_plan.proofs.Walked.{members_step, members_end, members_none}
use Rattle.op_plan.proofs.walk.next_member.Goals as goal

pub returns-in_default : goal.returns-in_default
returns-in_default g c = members_none (g.T.TreeRep.tree c.args.tree.now) c.args.top.now c.args.last.now (sym c.in_default.ensures)

pub returns-then-is_prefix_of : goal.returns-then-is_prefix_of
returns-then-is_prefix_of g c =
    let under = sym c.is_prefix_of.ensures ∙ c.if-is_prefix_of.true in
    record {
      under = under;
      left = members_step (g.T.TreeRep.tree c.args.tree.now) c.args.top.now c.args.last.now (deref_pair (c.in-Some.at, c.in-Some.element)) (sym c.in-Some.ensures) c.requires under;
    }

pub returns : goal.returns
returns g c = members_end (g.T.TreeRep.tree c.args.tree.now) c.args.top.now c.args.last.now (deref_pair (c.in-Some.at, c.in-Some.element)) (sym c.in-Some.ensures) c.requires
    (sym c.is_prefix_of.ensures ∙ c.if-is_prefix_of.false)
