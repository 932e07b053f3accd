use Rattle.std.proofs.Common.{◌≡◌, length}
use Rattle.tree_memory.specs.Spared.{left}
use Rattle.ws_marks.specs.Marked.{since_begin}
use Rattle.ws_content.proofs.Keeps.{Ends}
use Rattle.ws_content.proofs.Steps.{Known}
use Rattle.ws_content.proofs.keeping.close.Given as goal

abbrev pub invariant-loop-alloc : goal.invariant-loop-alloc
invariant-loop-alloc g l = record {
  known : Known g.T.Remembers.number (left g.T.TreeRep.remembered l.tree) l.marks;
  goes : Ends g.T.Remembers.number (left g.T.TreeRep.remembered l.initial.tree) l.initial.marks (left g.T.TreeRep.remembered l.tree) l.marks;
  tree : g.T.TreeRep.tree l.tree.tree ≡ g.T.TreeRep.tree l.initial.tree.tree;
}

abbrev pub decreases-loop-alloc : goal.decreases-loop-alloc
decreases-loop-alloc g l = length (since_begin l.marks.replaced)
