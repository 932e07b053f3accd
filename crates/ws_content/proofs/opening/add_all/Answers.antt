use Rattle.std.proofs.Common.{refl, sym, ap, subst, ◌∙◌}
use Rattle.std.specs.FinMap.{insert}
use Rattle.tree_memory.specs.Spared.{left}
use Rattle.ws_marks.specs.Places.{place_of}
use Rattle.ws_content.specs.States.{shown_built, with_built}
use Rattle.ws_content.specs.Inside.Held.{Holds}
use Rattle.ws_content.specs.Inside.Opened.{onto}
use Rattle.ws_content.proofs.Begun.{onto_last, onto_none}
use Rattle.ws_content.proofs.opening.add_all.Goals as goal

pub loop-last-init : goal.loop-last-init
loop-last-init g c = record { at = c.requires.at; known = c.requires.known; goes = λ start v h. (v.built, h, refl) }

pub add-requires-clause-at : goal.add-requires-clause-at
add-requires-clause-at g c = c.loop-last.invariant.at

pub add-requires-clause-known : goal.add-requires-clause-known
add-requires-clause-known g c = c.loop-last.invariant.known

pub loop-last-preserved : goal.loop-last-preserved
loop-last-preserved g c =
    let i = c.loop-last.invariant in
    let last = c.in-Some.last.now in
    let others = c.in-Some.others.now in
    record {
      at = c.in_ok-add.ensures.tree;
      known =
          let k = i.known in
          let v = k.1 in
          (k.0, with_built v (insert v.built (place_of last) (shown_built last)), c.in_ok-add.ensures.holds k.0 k.1 k.2);
      goes = λ start v h.
          let a = i.goes start v h in
          let b = a.0 in (
            insert b (place_of last) (shown_built last),
            c.in_ok-add.ensures.holds start (with_built v b) a.1,
            sym (onto_last b others last) ∙ ap (onto b) (sym c.in-Some.ensures.cases.0) ∙ a.2,
          );
    }

pub returns-clause-holds : goal.returns-clause-holds
returns-clause-holds g c start v h =
    let a = c.loop-last.invariant.goes start v h in
    let b = a.0 in
    subst (λ z. Holds g.T.Remembers.number start (left g.T.TreeRep.remembered c.loop-last.tree) c.loop-last.marks (with_built v z))
    (sym (onto_none b c.loop-last.rest.now c.in_default.ensures.cases) ∙ a.2) a.1

pub returns-clause-tree : goal.returns-clause-tree
returns-clause-tree g c = c.loop-last.invariant.at
