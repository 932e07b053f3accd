use Rattle.std.proofs.Common.{refl, subst, sym, ◌∙◌}
use Rattle.tree_memory.specs.Spared.{left}
use Rattle.ws_content.specs.States.{with_built}
use Rattle.ws_content.specs.Inside.Held.{Holds}
use Rattle.ws_content.proofs.remembering.forget_built.Goals as goal

pub loop-alloc-init : goal.loop-alloc-init
loop-alloc-init g c = record {
  known = c.requires;
  goes = λ start v h. (v.built, h, refl);
  tree = refl;
  room = refl;
}

pub forget_first-requires : goal.forget_first-requires
forget_first-requires g c = c.loop-alloc.invariant.known

pub loop-alloc-smaller : goal.loop-alloc-smaller
loop-alloc-smaller g c = c.loop-alloc-test.ensures.fewer refl

pub loop-alloc-preserved : goal.loop-alloc-preserved
loop-alloc-preserved g c =
    let i = c.loop-alloc.invariant in
    let done = c.loop-alloc-test.ensures in
    record {
      known =
          let k = i.known in
          let x = done.holds k.0 k.1 k.2 in
          (k.0, with_built (k.1) (x.0), x.1);
      goes = λ start v h.
          let a = i.goes start v h in
          let b = done.holds start (with_built v (a.0)) a.1 in
          (b.0, b.1, b.2 ∙ a.2);
      tree = done.tree ∙ i.tree;
      room = done.room ∙ i.room;
    }

pub returns-clause-holds : goal.returns-clause-holds
returns-clause-holds g c start v h =
    let i = c.loop-alloc.invariant in
    let done = c.loop-alloc-test.ensures in
    let a = i.goes start v h in
    let b = done.holds start (with_built v (a.0)) a.1 in
    let none = done.none refl start (with_built v (b.0)) b.1 in
    subst (λ z. Holds g.T.Remembers.number start (left g.T.TreeRep.remembered c.forget_first.new.tree) c.forget_first.new.marks (with_built v z)) (sym none ∙ b.2 ∙ a.2) b.1

pub returns-clause-tree : goal.returns-clause-tree
returns-clause-tree g c = c.loop-alloc-test.ensures.tree ∙ c.loop-alloc.invariant.tree

pub returns-clause-room : goal.returns-clause-room
returns-clause-room g c = c.loop-alloc-test.ensures.room ∙ c.loop-alloc.invariant.room
