use Rattle.std.proofs.Common.{◌≡◌, reverse}
use Rattle.op_plan.specs.Edits.{HasRooms, changed}
use Rattle.op_plan.proofs.edits.put_back_from.Given as goal

abbrev pub invariant-loop-path : goal.invariant-loop-path
invariant-loop-path g l = record {
  tree : changed (g.T.TreeRep.tree l.tree) (reverse l.entries.items) ≡ changed (g.T.TreeRep.tree l.initial.tree) (reverse l.initial.entries.items);
  room : g.T.TreeRep.room l.tree ≡ g.T.TreeRep.room l.initial.tree;
  remembered : g.T.TreeRep.remembered l.tree ≡ g.T.TreeRep.remembered l.initial.tree;
  rooms : HasRooms (g.T.TreeRep.room l.tree) (reverse l.entries.items);
}

abbrev pub decreases-loop-path : goal.decreases-loop-path
decreases-loop-path g l = goal.left-loop-path g l
