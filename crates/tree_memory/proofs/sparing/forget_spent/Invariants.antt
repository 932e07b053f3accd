use Rattle.std.proofs.Common.{◌≡◌, ◌≤◌, length, map}
use Rattle.std.specs.Vec.{vec_len, vec_capacity}
use Rattle.tree_memory.specs.Spared.{without}
use Rattle.tree_memory.specs.Inside.{AreSpent}
use Rattle.tree_memory.proofs.sparing.forget_spent.Given as goal

abbrev pub invariant-loop-alloc : goal.invariant-loop-alloc
invariant-loop-alloc g l = record {
  spent : AreSpent (g.T.TreeRep.remembered l.tree) (map g.T.Remembers.number l.spent.items);
  left : without (g.T.TreeRep.remembered l.tree) (map g.T.Remembers.number l.spent.items)
      ≡ without (g.T.TreeRep.remembered l.initial.tree) (map g.T.Remembers.number l.initial.spent.items);
  tree : g.T.TreeRep.tree l.tree ≡ g.T.TreeRep.tree l.initial.tree;
  room : g.T.TreeRep.room l.tree ≡ g.T.TreeRep.room l.initial.tree;
  len : vec_len l.spent ≤ vec_len l.initial.spent;
  capacity : vec_capacity l.spent ≡ vec_capacity l.initial.spent;
}

abbrev pub decreases-loop-alloc : goal.decreases-loop-alloc
decreases-loop-alloc g l = length l.spent.items
