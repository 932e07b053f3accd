use Rattle.std.proofs.Common.{sym, subst, ap, ◌∙◌}
use Rattle.std.specs.FinMap as map
use Rattle.ws_elem.specs.Trees.{set_at}
use Rattle.layer_log.proofs.Undoing.{Undoing, undoing_begins, undoing_steps, undoing_ends}
use Rattle.layer_log.proofs.changes.Changes.undo.Goals as goal

pub loop-path-init : goal.loop-path-init
loop-path-init c = record {
  undoing = λ a h. subst (λ t. Undoing a c.into_iter-path-iterator.result t) (sym (ap (λ t. t.map) c.in_ok-undone.ensures))
      (subst (λ es. Undoing a es c.args.tree.now.map) (sym c.iter-path-items.ensures ∙ sym c.into_iter-path-iterator.ensures.into_iter_gives)
      (subst (λ m. Undoing a (map.entries m) c.args.tree.now.map) (sym c.self.view_is) (undoing_begins a c.args.tree.now.map c.args.self.now h)));
  room = ap (λ t. t.room) c.in_ok-undone.ensures;
}

pub loop-path-preserved : goal.loop-path-preserved
loop-path-preserved c = record {
  undoing = λ a h. undoing_steps a c.loop-path.undone.map c.set_at.new.tree.map (c.in-Some.path.now, c.in-Some.change.now) c.next.new.self
      (subst (λ es. Undoing a es c.loop-path.undone.map) c.in-Some.ensures.steps (c.loop-path.invariant.undoing a h))
      (c.in_ok-set_at.ensures.ok ∙ ap (set_at c.loop-path.undone.map c.in-Some.path.now) c.as_ref.ensures.value);
  room = c.set_at.ensures.room ∙ c.loop-path.invariant.room;
}

pub returns-clause-before : goal.returns-clause-before
returns-clause-before c = λ a h. undoing_ends a c.loop-path.undone.map (subst (λ es. Undoing a es c.loop-path.undone.map) c.in-None.ensures.steps.0 (c.loop-path.invariant.undoing a h))

pub returns-clause-room : goal.returns-clause-room
returns-clause-room c = c.loop-path.invariant.room
