use Rattle.std.proofs.Common.{ap, sym, subst, ◌∙◌}
use Rattle.std.specs.FinMap as map
use Rattle.ws_elem.specs.Inside.Slots.{SetsSlot, emptied}
use Rattle.ws_elem.proofs.Kept.{get-tree_of, after_take, kept_taken, kept_none, some_taken}
use Rattle.ws_elem.proofs.elem_map.ElemMap.take.Goals as goal

pub invariant_of-self : goal.invariant_of-self
invariant_of-self c =
    kept_none c.self.inside.slots.entries c.take_from.new.slots.entries c.self.inside.room c.self.inside.elements c.args.path.now
    c.self.invariant (subst (λ b. SetsSlot c.self.inside.slots.entries c.take_from.new.slots.entries c.args.path.now (emptied b)) c.contains-stays.ensures c.take_from.ensures.after)
    (sym c.take_from.ensures.before ∙ c.in_err-taken.was)

pub returns-in_err-taken-clause-before : goal.returns-in_err-taken-clause-before
returns-in_err-taken-clause-before c =
    c.from_residual.ensures ∙ sym c.in_err-taken.was ∙ c.take_from.ensures.before ∙ sym (get-tree_of c.self.inside.slots.entries c.args.path.now)
    ∙ ap (λ m. map.get m.map c.args.path.now) c.self.view_is

pub returns-in_err-taken-clause-taken : goal.returns-in_err-taken-clause-taken
returns-in_err-taken-clause-taken c =
    after_take c.self.inside.slots.entries c.take_from.new.slots.entries c.self.inside.room c.self.inside.elements c.args.path.now
    (subst (λ b. SetsSlot c.self.inside.slots.entries c.take_from.new.slots.entries c.args.path.now (emptied b)) c.contains-stays.ensures c.take_from.ensures.after)
    ∙ ap (λ m. map.remove m.map c.args.path.now) c.self.view_is

pub overflow_sub-self : goal.overflow_sub-self
overflow_sub-self c =
    some_taken c.self.inside.slots.entries c.self.inside.room c.args.path.now c.self.inside.elements c.in_ok-taken.taken c.self.invariant
    (sym c.take_from.ensures.before ∙ c.in_ok-taken.was)

pub invariant_of-self-2 : goal.invariant_of-self-2
invariant_of-self-2 c =
    kept_taken c.self.inside.slots.entries c.take_from.new.slots.entries c.self.inside.room c.self.inside.elements c.args.path.now c.in_ok-taken.taken
    c.self.invariant (subst (λ b. SetsSlot c.self.inside.slots.entries c.take_from.new.slots.entries c.args.path.now (emptied b)) c.contains-stays.ensures c.take_from.ensures.after)
    (sym c.take_from.ensures.before ∙ c.in_ok-taken.was)

pub returns-clause-before : goal.returns-clause-before
returns-clause-before c =
    sym c.in_ok-taken.was ∙ c.take_from.ensures.before ∙ sym (get-tree_of c.self.inside.slots.entries c.args.path.now)
    ∙ ap (λ m. map.get m.map c.args.path.now) c.self.view_is

pub returns-clause-taken : goal.returns-clause-taken
returns-clause-taken c =
    after_take c.self.inside.slots.entries c.take_from.new.slots.entries c.self.inside.room c.self.inside.elements c.args.path.now
    (subst (λ b. SetsSlot c.self.inside.slots.entries c.take_from.new.slots.entries c.args.path.now (emptied b)) c.contains-stays.ensures c.take_from.ensures.after)
    ∙ ap (λ m. map.remove m.map c.args.path.now) c.self.view_is
