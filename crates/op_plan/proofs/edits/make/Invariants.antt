use Rattle.std.proofs.Common.{◌≡◌, ◌+◌, ◌≤◌, ◌++◌, length, reverse}
use Rattle.std.specs.Vec.{vec_len, vec_capacity}
use Rattle.std.specs.Vec.Iter.{into_iter_items}
use Rattle.op_plan.specs.Edits.{HasRooms, changed}
use Rattle.op_plan.specs.Inside.Lists.{undoing}
use Rattle.op_plan.proofs.edits.make.Given as goal

abbrev pub invariant-loop-edit : goal.invariant-loop-edit
invariant-loop-edit g l = record {
  tree : changed (g.T.TreeRep.tree l.tree) (into_iter_items l.edit-iterator) ≡ changed (g.T.TreeRep.tree l.initial.tree) (into_iter_items l.initial.edit-iterator);
  room : g.T.TreeRep.room l.tree ≡ g.T.TreeRep.room l.initial.tree;
  remembered : g.T.TreeRep.remembered l.tree ≡ g.T.TreeRep.remembered l.initial.tree;
  rooms : HasRooms (g.T.TreeRep.room l.tree) (into_iter_items l.edit-iterator);
  space : vec_len l.earlier + length (into_iter_items l.edit-iterator) ≤ vec_capacity l.earlier;
  earlier : undoing (g.T.TreeRep.tree l.tree) (into_iter_items l.edit-iterator) ++ reverse l.earlier.items
      ≡ undoing (g.T.TreeRep.tree l.initial.tree) (into_iter_items l.initial.edit-iterator) ++ reverse l.initial.earlier.items;
}
