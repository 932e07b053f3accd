use Rattle.std.proofs.Common.{◌≡◌, ◌++◌, true, length}
use Rattle.res_path.specs.Paths.{is_prefix}
use Rattle.op_kind.specs.Members.{members}
use Rattle.op_plan.specs.Inside.Walks.{members_after}
use Rattle.op_plan.proofs.walk.add_members.Given as goal

abbrev pub invariant-loop-at : goal.invariant-loop-at
invariant-loop-at g l = record {
  under : is_prefix l.path l.last ≡ true;
  found : l.found ++ members_after (g.T.TreeRep.tree l.tree) l.path l.last ≡ l.initial.found ++ members (g.T.TreeRep.tree l.tree) l.path;
}

abbrev pub decreases-loop-at : goal.decreases-loop-at
decreases-loop-at g l = length (members_after (g.T.TreeRep.tree l.tree) l.path l.last)
