use Rattle.std.proofs.Common.{◌≡◌, ◌≤◌, length}
use Rattle.std.specs.Prelude.{IsSome}
use Rattle.tree_memory.specs.Spared.{left}
use Rattle.ws_marks.specs.Marked.{since_begin}
use Rattle.ws_content.proofs.Keeps.{AllBehind, KeepsFrom}
use Rattle.ws_content.proofs.Steps.{Known}
use Rattle.ws_content.proofs.keeping.keep_each.Given as goal

abbrev pub invariant-loop-first : goal.invariant-loop-first
invariant-loop-first g l = record {
  known : Known g.T.Remembers.number (left g.T.TreeRep.remembered l.tree) l.marks;
  saving : IsSome l.marks.replaced;
  goes : KeepsFrom g.T.Remembers.number (g.T.TreeRep.tree l.fn.tree.tree) (left g.T.TreeRep.remembered l.fn.tree) l.fn.marks (left g.T.TreeRep.remembered l.tree) l.marks l.states l.rest;
  behind : AllBehind g.T.Remembers.number (left g.T.TreeRep.remembered l.fn.tree) l.fn.marks (left g.T.TreeRep.remembered l.tree) l.marks;
  more : length (since_begin l.fn.marks.replaced) ≤ length (since_begin l.marks.replaced);
  tree : g.T.TreeRep.tree l.tree.tree ≡ g.T.TreeRep.tree l.fn.tree.tree;
}

abbrev pub decreases-loop-first : goal.decreases-loop-first
decreases-loop-first g l = length l.rest
