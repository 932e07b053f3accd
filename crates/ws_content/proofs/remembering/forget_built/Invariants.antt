use Rattle.std.proofs.Common.{◌≡◌}
use Rattle.std.specs.FinMap.{len}
use Rattle.tree_memory.specs.Spared.{left}
use Rattle.ws_content.proofs.Steps.{Forgets, Known}
use Rattle.ws_content.proofs.remembering.forget_built.Given as goal

abbrev pub invariant-loop-alloc : goal.invariant-loop-alloc
invariant-loop-alloc g l = record {
  known : Known g.T.Remembers.number (left g.T.TreeRep.remembered l.tree) l.marks;
  goes : Forgets g.T.Remembers.number l.project l.from (left g.T.TreeRep.remembered l.initial.tree) l.initial.marks (left g.T.TreeRep.remembered l.tree) l.marks;
  tree : g.T.TreeRep.tree l.tree.tree ≡ g.T.TreeRep.tree l.initial.tree.tree;
  room : g.T.TreeRep.room l.tree.tree ≡ g.T.TreeRep.room l.initial.tree.tree;
}

abbrev pub decreases-loop-alloc : goal.decreases-loop-alloc
decreases-loop-alloc g l = len l.marks.built
