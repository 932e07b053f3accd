use Rattle.std.proofs.Common.{◌≡◌, length}
use Rattle.std.specs.Prelude.{IsSome}
use Rattle.tree_memory.specs.Spared.{left}
use Rattle.ws_content.proofs.Begun.{KeepsOn}
use Rattle.ws_content.proofs.Steps.{Known}
use Rattle.ws_content.proofs.opening.keep_in_turn.Given as goal

abbrev pub invariant-loop-last : goal.invariant-loop-last
invariant-loop-last g l = record {
  at : g.T.TreeRep.tree l.tree.tree ≡ l.at.map;
  known : Known g.T.Remembers.number (left g.T.TreeRep.remembered l.tree) l.marks;
  saving : IsSome l.marks.replaced;
  goes : KeepsOn g.T.Remembers.number (left g.T.TreeRep.remembered l.fn.tree) l.fn.marks (left g.T.TreeRep.remembered l.tree) l.marks l.kept l.rest;
}

abbrev pub decreases-loop-last : goal.decreases-loop-last
decreases-loop-last g l = length l.rest
