use Rattle.std.proofs.Common.{◌≡◌, take}
use Rattle.op_plan.specs.Edits.{HasRooms, KeepsRoom}
use Rattle.op_plan.proofs.edits.Edits.make_room.Given as goal

abbrev pub invariant-loop-edit : goal.invariant-loop-edit
invariant-loop-edit g l = record {
  tree : g.T.TreeRep.tree l.tree ≡ g.T.TreeRep.tree l.initial.tree;
  kept : KeepsRoom (g.T.TreeRep.room l.initial.tree) (g.T.TreeRep.room l.tree);
  rooms : HasRooms (g.T.TreeRep.room l.tree) (take l.edit-index l.edit-items);
  remembered : g.T.TreeRep.remembered l.tree ≡ g.T.TreeRep.remembered l.initial.tree;
}
