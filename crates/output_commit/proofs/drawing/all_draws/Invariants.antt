use Rattle.std.proofs.Common.{◌≡◌, ◌+◌}
use Rattle.std.specs.FinMap.{entries}
use Rattle.output_commit.specs.Placed.{total, nodes_of, stamps_of}
use Rattle.output_commit.specs.Touched.{touches_of}
use Rattle.output_commit.specs.Inside.Plans.{news_of}
use Rattle.output_commit.proofs.drawing.all_draws.Given as goal

abbrev pub invariant-loop-path : goal.invariant-loop-path
invariant-loop-path g l = let t = g.T.TreeRep.tree l.tree in record {
  nodes : l.sum.nodes + total nodes_of t l.path-iterator ≡ total nodes_of t (entries l.wanted.map);
  stamps : l.sum.stamps + total stamps_of t l.path-iterator ≡ total stamps_of t (entries l.wanted.map);
  news : l.sum.news + total news_of t l.path-iterator ≡ total news_of t (entries l.wanted.map);
  touches : l.sum.touches + total touches_of t l.path-iterator ≡ total touches_of t (entries l.wanted.map);
}
