use Rattle.std.proofs.Common.{refl, sym, ap, subst, ◌∙◌}
use Rattle.std.specs.FinMap.{insert}
use Rattle.tree_memory.specs.Spared.{left}
use Rattle.ws_content.specs.States.{shown_kept}
use Rattle.ws_content.specs.Inside.Held.{Holds}
use Rattle.ws_content.specs.Inside.Opened.{kept_onto}
use Rattle.ws_content.proofs.Begun.{kept_last, kept_none}
use Rattle.ws_content.proofs.opening.keep_in_turn.Goals as goal

pub loop-last-init : goal.loop-last-init
loop-last-init g c = record { at = c.requires.at; known = c.requires.known; saving = c.requires.saving; goes = λ start v h. (v.kept, h, refl) }

pub keep_state-requires-clause-at : goal.keep_state-requires-clause-at
keep_state-requires-clause-at g c = c.loop-last.invariant.at

pub keep_state-requires-clause-known : goal.keep_state-requires-clause-known
keep_state-requires-clause-known g c = c.loop-last.invariant.known

pub keep_state-requires-clause-saving : goal.keep_state-requires-clause-saving
keep_state-requires-clause-saving g c = c.loop-last.invariant.saving

pub loop-last-preserved : goal.loop-last-preserved
loop-last-preserved g c =
    let i = c.loop-last.invariant in
    let last = c.in-Some.last.now in
    let others = c.in-Some.others.now in
    let done = c.in_ok-at.ensures in
    record {
      at = done.tree;
      known =
          let k = i.known in
          let v = k.1 in
          (k.0, record v { kept = insert v.kept last.participant (shown_kept last) }, done.holds k.0 k.1 k.2);
      saving = done.saving;
      goes = λ start v h.
          let a = i.goes start v h in
          let b = a.0 in (
            insert b last.participant (shown_kept last),
            done.holds start (record v { kept = b }) a.1,
            sym (kept_last b others last) ∙ ap (kept_onto b) (sym c.in-Some.ensures.cases.0) ∙ a.2,
          );
    }

pub returns-clause-holds : goal.returns-clause-holds
returns-clause-holds g c start v h =
    let a = c.loop-last.invariant.goes start v h in
    let b = a.0 in
    subst (λ z. Holds g.T.Remembers.number start (left g.T.TreeRep.remembered c.loop-last.tree) c.loop-last.marks (record v { kept = z }))
    (sym (kept_none b c.loop-last.rest.now c.in_default.ensures.cases) ∙ a.2) a.1

pub returns-clause-tree : goal.returns-clause-tree
returns-clause-tree g c = c.loop-last.invariant.at
