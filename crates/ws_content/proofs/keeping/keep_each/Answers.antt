use Rattle.std.proofs.Common.{[], ◌∷◌, arith, refl, ap, sym, subst, ◌∙◌}
use Rattle.std.specs.FinMap.{insert}
use Rattle.tree_memory.specs.Spared.{left}
use Rattle.ws_content.specs.Saves.{kept_with, state_of, states_kept}
use Rattle.ws_content.specs.Inside.Held.{Holds}
use Rattle.ws_content.proofs.Keeps.{behind_itself, behind_on, kept_with_none}
use Rattle.ws_content.proofs.keeping.keep_each.Goals as goal

pub loop-first-init : goal.loop-first-init
loop-first-init g c = record {
  known = c.requires.known;
  saving = c.requires.saving;
  goes = λ start v h. (v.kept, h, refl);
  behind = λ start count v h le. behind_itself g.T.Remembers.number start count (left g.T.TreeRep.remembered c.args.tree.now) c.args.marks.now;
  more = omega arith;
  tree = refl;
}

pub keep-requires-clause-known : goal.keep-requires-clause-known
keep-requires-clause-known g c = c.loop-first.invariant.known

pub keep-requires-clause-saving : goal.keep-requires-clause-saving
keep-requires-clause-saving g c = c.loop-first.invariant.saving

pub returns-in_err-keep-clause-known : goal.returns-in_err-keep-clause-known
returns-in_err-keep-clause-known g c start v h =
    let a = c.loop-first.invariant.goes start v h in
    (a.0, c.in_err-keep.ensures.same start (record v { kept = a.0 }) a.1)

pub returns-in_err-keep-clause-behind : goal.returns-in_err-keep-clause-behind
returns-in_err-keep-clause-behind g c start count v h le =
    let i = c.loop-first.invariant in
    let a = i.goes start v h in
    behind_on g.T.Remembers.number start count (left g.T.TreeRep.remembered c.args.tree.now) (left g.T.TreeRep.remembered c.loop-first.tree) (left g.T.TreeRep.remembered c.keep.new.tree)
    c.args.marks.now c.loop-first.marks c.keep.new.marks (i.behind start count v h le) (c.keep.ensures.behind start count (record v { kept = a.0 }) a.1 (omega (arith, le, i.more)))

pub loop-first-preserved : goal.loop-first-preserved
loop-first-preserved g c =
    let i = c.loop-first.invariant in
    let done = c.in_ok-keep.ensures in
    let t = g.T.TreeRep.tree c.args.tree.now.tree in
    let first = c.in-Some.first.now in
    let others = c.in-Some.others.now in
    record {
      known =
          let k = i.known in
          (k.0, states_kept (g.T.TreeRep.tree c.loop-first.tree.tree) (k.1) (first ∷ []), done.holds k.0 k.1 k.2);
      saving = done.saving;
      goes = λ start v h.
          let a = i.goes start v h in (
            insert a.0 first.0 (state_of t first),
            subst (λ u. Holds g.T.Remembers.number start (left g.T.TreeRep.remembered c.keep.new.tree) c.keep.new.marks (record v { kept = insert a.0 first.0 (state_of u first) })) i.tree
                (done.holds start (record v { kept = a.0 }) a.1),
            ap (kept_with t (a.0)) (sym c.in-Some.ensures.cases.0) ∙ a.2,
          );
      behind = λ start count v h le.
          let a = i.goes start v h in
          behind_on g.T.Remembers.number start count (left g.T.TreeRep.remembered c.args.tree.now) (left g.T.TreeRep.remembered c.loop-first.tree) (left g.T.TreeRep.remembered c.keep.new.tree)
          c.args.marks.now c.loop-first.marks c.keep.new.marks (i.behind start count v h le) (done.behind start count (record v { kept = a.0 }) a.1 (omega (arith, le, i.more)));
      more = omega (arith, i.more, done.more);
      tree = done.tree ∙ i.tree;
    }

pub returns-clause-known : goal.returns-clause-known
returns-clause-known g c start v h =
    let a = c.loop-first.invariant.goes start v h in
    (a.0, a.1)

pub returns-clause-holds : goal.returns-clause-holds
returns-clause-holds g c start v h =
    let a = c.loop-first.invariant.goes start v h in
    let t = g.T.TreeRep.tree c.args.tree.now.tree in
    subst (λ k. Holds g.T.Remembers.number start (left g.T.TreeRep.remembered c.loop-first.tree) c.loop-first.marks (record v { kept = k }))
    (sym (kept_with_none t (a.0) c.loop-first.rest.now c.in_default.ensures.cases) ∙ a.2) a.1
