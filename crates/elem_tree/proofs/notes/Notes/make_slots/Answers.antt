use Rattle.std.proofs.Common.{sym, subst, ◌∙◌}
use Rattle.elem_tree.proofs.Joins.{Slotting, slotting_begins, slotting_steps, spared_itself, spared_more}
use Rattle.elem_tree.proofs.notes.Notes.make_slots.Goals as goal

pub loop-path-init : goal.loop-path-init
loop-path-init c = (
  spared_itself c.args.self.now,
  subst (Slotting c.args.others.now c.args.self.now) (sym c.iter-path-items.ensures ∙ sym c.into_iter-path-iterator.ensures.into_iter_gives) (slotting_begins c.args.others.now c.args.self.now),
)

pub loop-path-preserved : goal.loop-path-preserved
loop-path-preserved c = (
  spared_more c.args.self.now c.loop-path.self c.make_slot.new.self c.in-Some.path.now c.loop-path.invariant.0 c.in_ok-make_slot.ensures.ok,
  slotting_steps c.args.others.now c.loop-path.self c.make_slot.new.self (c.in-Some.path.now, c.in-Some.field-0-1.now) c.next.new.self
      (subst (Slotting c.args.others.now c.loop-path.self) c.in-Some.ensures.steps c.loop-path.invariant.1) c.in_ok-make_slot.ensures.ok,
)
