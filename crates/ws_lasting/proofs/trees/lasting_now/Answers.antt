use Rattle.std.proofs.Common.{◌∙◌}
use Rattle.std.specs.Map.Iter.{deref_pair}
use Rattle.ws_lasting.proofs.Walked.{fewer_next, found_all, found_more, found_root}
use Rattle.ws_lasting.proofs.trees.lasting_now.Goals as goal

pub loop-path-init : goal.loop-path-init
loop-path-init g c = record {
  found = found_root (g.T.TreeRep.tree c.args.tree.now) c.in_ok-found.found.map c.root-at.result c.root-at.ensures c.in_ok-found.ensures.map;
  room = c.in_ok-found.ensures.room;
}

pub loop-path-smaller : goal.loop-path-smaller
loop-path-smaller g c = fewer_next (g.T.TreeRep.tree c.args.tree.now) c.loop-path.at c.in_ok-at.at (deref_pair (c.in-Some.path, c.in-Some.element)) c.in-Some.ensures c.in_ok-at.ensures

pub loop-path-preserved : goal.loop-path-preserved
loop-path-preserved g c = record {
  found = found_more (g.T.TreeRep.tree c.args.tree.now) c.loop-path.found.map c.add.new.found.map c.loop-path.at c.in_ok-at.at (deref_pair (c.in-Some.path, c.in-Some.element))
      c.in-Some.ensures c.in_ok-at.ensures c.in_ok-add.ensures.map c.loop-path.invariant.found;
  room = c.add.ensures.room ∙ c.loop-path.invariant.room;
}

pub returns-clause-map : goal.returns-clause-map
returns-clause-map g c = found_all (g.T.TreeRep.tree c.args.tree.now) c.loop-path.found.map c.loop-path.at c.in_default.ensures c.loop-path.invariant.found
