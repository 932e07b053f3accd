use Rattle.std.proofs.Common.{refl, ◌∙◌}
use Rattle.tree_memory.specs.Spared.{left}
use Rattle.ws_content.proofs.Keeps.{behind_itself, behind_on}
use Rattle.ws_content.proofs.keeping.undo_beyond.Goals as goal

pub loop-alloc-init : goal.loop-alloc-init
loop-alloc-init g c = record {
  known = c.requires;
  goes = λ start v h. (v.kept, h);
  behind = λ start v h. behind_itself g.T.Remembers.number start c.args.count (left g.T.TreeRep.remembered c.args.tree.now) c.args.marks.now;
  tree = refl;
}

pub undo_one-requires : goal.undo_one-requires
undo_one-requires g c = c.loop-alloc.invariant.known

pub loop-alloc-smaller : goal.loop-alloc-smaller
loop-alloc-smaller g c = c.loop-alloc-test.ensures.fewer refl

pub loop-alloc-preserved : goal.loop-alloc-preserved
loop-alloc-preserved g c =
    let i = c.loop-alloc.invariant in
    let done = c.loop-alloc-test.ensures in
    record {
      known =
          let k = i.known in
          let x = done.holds k.0 k.1 k.2 in
          (k.0, record (k.1) { kept = x.0 }, x.1);
      goes = λ start v h.
          let a = i.goes start v h in
          done.holds start (record v { kept = a.0 }) a.1;
      behind = λ start v h.
          let a = i.goes start v h in
          behind_on g.T.Remembers.number start c.args.count (left g.T.TreeRep.remembered c.args.tree.now) (left g.T.TreeRep.remembered c.loop-alloc.tree) (left g.T.TreeRep.remembered c.undo_one.new.tree)
          c.args.marks.now c.loop-alloc.marks c.undo_one.new.marks (i.behind start v h) (done.behind start (record v { kept = a.0 }) a.1);
      tree = done.tree ∙ i.tree;
    }

pub returns-clause-holds : goal.returns-clause-holds
returns-clause-holds g c start v h =
    let a = c.loop-alloc.invariant.goes start v h in
    c.loop-alloc-test.ensures.holds start (record v { kept = a.0 }) a.1

pub returns-clause-behind : goal.returns-clause-behind
returns-clause-behind g c start v h =
    let i = c.loop-alloc.invariant in
    let a = i.goes start v h in
    behind_on g.T.Remembers.number start c.args.count (left g.T.TreeRep.remembered c.args.tree.now) (left g.T.TreeRep.remembered c.loop-alloc.tree) (left g.T.TreeRep.remembered c.undo_one.new.tree)
    c.args.marks.now c.loop-alloc.marks c.undo_one.new.marks (i.behind start v h) (c.loop-alloc-test.ensures.behind start (record v { kept = a.0 }) a.1)

pub returns-clause-tree : goal.returns-clause-tree
returns-clause-tree g c = c.loop-alloc-test.ensures.tree ∙ c.loop-alloc.invariant.tree
