use Rattle.std.proofs.Common.{refl, sym, subst, ◌∙◌}
use Rattle.std.specs.Prelude.{None}
use Rattle.tree_memory.specs.Spared.{left}
use Rattle.ws_content.specs.Inside.Held.{Holds}
use Rattle.ws_content.proofs.Holding.{over_holds}
use Rattle.ws_content.proofs.keeping.close.Goals as goal

pub loop-alloc-init : goal.loop-alloc-init
loop-alloc-init g c = record { known = c.requires; goes = λ start v h. (v.before, h); tree = refl }

pub let_go_one-requires : goal.let_go_one-requires
let_go_one-requires g c = c.loop-alloc.invariant.known

pub loop-alloc-smaller : goal.loop-alloc-smaller
loop-alloc-smaller g c = c.loop-alloc-test.ensures.fewer refl

pub loop-alloc-preserved : goal.loop-alloc-preserved
loop-alloc-preserved g c =
    let i = c.loop-alloc.invariant in
    let done = c.loop-alloc-test.ensures in
    record {
      known =
          let k = i.known in
          let x = done.holds k.0 k.1 k.2 in
          (k.0, record (k.1) { before = x.0 }, x.1);
      goes = λ start v h.
          let a = i.goes start v h in
          done.holds start (record v { before = a.0 }) a.1;
      tree = done.tree ∙ i.tree;
    }

pub end_save-requires : goal.end_save-requires
end_save-requires g c = c.loop-alloc-test.ensures.none refl

pub returns-clause-holds : goal.returns-clause-holds
returns-clause-holds g c start v h =
    let done = c.loop-alloc-test.ensures in
    let a = c.loop-alloc.invariant.goes start v h in
    let b = done.holds start (record v { before = a.0 }) a.1 in
    subst (λ z. Holds g.T.Remembers.number start (left g.T.TreeRep.remembered c.let_go_one.new.tree) z (record v { before = None })) (sym c.end_save.ensures)
    (over_holds g.T.Remembers.number start (left g.T.TreeRep.remembered c.let_go_one.new.tree) c.let_go_one.new.marks (record v { before = b.0 }) (done.none refl) b.1)

pub returns-clause-tree : goal.returns-clause-tree
returns-clause-tree g c = c.loop-alloc-test.ensures.tree ∙ c.loop-alloc.invariant.tree
