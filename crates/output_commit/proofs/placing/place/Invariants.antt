use Rattle.std.proofs.Common.{◌≡◌, ◌+◌, ◌++◌}
use Rattle.std.specs.FinMap.{entries}
use Rattle.op_plan.specs.Inside.Lists.{put}
use Rattle.output_commit.specs.Placed.{placed, total, nodes_of, stamps_of}
use Rattle.output_commit.proofs.placing.place.Given as goal

abbrev pub invariant-loop-path : goal.invariant-loop-path
invariant-loop-path g l = let t = g.T.TreeRep.tree l.tree in record {
  nodes : l.node + total nodes_of t l.path-iterator ≡ l.initial.node + total nodes_of t (entries l.wanted.map);
  stamps : l.stamp + total stamps_of t l.path-iterator ≡ l.initial.stamp + total stamps_of t (entries l.wanted.map);
  edits : l.edits ++ put (placed t l.node l.stamp l.path-iterator) ≡ l.initial.edits ++ put (placed t l.initial.node l.initial.stamp (entries l.wanted.map));
}
