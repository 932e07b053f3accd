use Rattle.std.proofs.Common.{◌≡◌, ◌≤◌, ◌<◌, ◌+◌, ℕ, arith, ap, sym, subst, ◌∙◌, length}
use Rattle.std.specs.Prelude.{not}
use Rattle.std.specs.FinMap as map
use Rattle.ws_elem.specs.Rooms.{with_room}
use Rattle.ws_elem.specs.Inside.Slots.{IsKept}
use Rattle.ws_elem.specs.Trees.{with_new}
use Rattle.ws_elem.proofs.Kept.{after_fill, kept_filled, kept_unfilled, kept_same, fills_is, room_undone, room_added, room_same}
use Rattle.ws_elem.proofs.Filled.{len-tree_of}
use Rattle.ws_elem.proofs.elem_map.ElemMap.put_new.Goals as goal

pub invariant_of-self-in-Err : goal.invariant_of-self-in-Err
invariant_of-self-in-Err c =
    kept_same c.self.inside.slots.entries c.fill_slot.new.slots.entries c.self.inside.room c.undo_room.new.room c.self.inside.elements c.self.invariant
    c.in-Err.ensures.err (room_undone c.self.inside.room c.add.new.self c.undo_room.new.room c.args.path.now c.in_ok-added.added c.in_ok-added.ensures.answer
    c.in_ok-added.ensures.ok c.undo_room.ensures)

pub one_more-self-inside-requires : goal.one_more-self-inside-requires
one_more-self-inside-requires c =
    let kept : IsKept c.fill_slot.new.slots.entries c.add.new.self (c.self.inside.elements + 1) =
    kept_filled c.self.inside.slots.entries c.fill_slot.new.slots.entries c.self.inside.room c.self.inside.elements c.args.path.now c.args.element
    c.add.new.self c.self.invariant c.in-Ok.ensures.ok c.in_ok-added.ensures.ok (sym c.if-puts.true ∙ c.in-Ok.ensures.answer) in
    below c.self.inside.elements _ (length c.fill_slot.new.slots.entries) kept.counted (len-tree_of c.fill_slot.new.slots.entries)
  where
    below : (n m k : ℕ) → n + 1 ≡ m → m ≤ k → n < k
    below n m k h g = omega arith

pub invariant_of-self-then-puts : goal.invariant_of-self-then-puts
invariant_of-self-then-puts c =
    subst (IsKept c.fill_slot.new.slots.entries c.add.new.self) (sym c.one_more-self-inside.ensures)
    (kept_filled c.self.inside.slots.entries c.fill_slot.new.slots.entries c.self.inside.room c.self.inside.elements c.args.path.now c.args.element
    c.add.new.self c.self.invariant c.in-Ok.ensures.ok c.in_ok-added.ensures.ok (sym c.if-puts.true ∙ c.in-Ok.ensures.answer))

pub invariant_of-self-else-puts : goal.invariant_of-self-else-puts
invariant_of-self-else-puts c =
    kept_unfilled c.self.inside.slots.entries c.fill_slot.new.slots.entries c.self.inside.room c.self.inside.elements c.args.path.now c.args.element
    c.add.new.self c.self.invariant c.in-Ok.ensures.ok c.in_ok-added.ensures.ok (sym c.if-puts.false ∙ c.in-Ok.ensures.answer)

pub returns-in-Err-clause-no_room : goal.returns-in-Err-clause-no_room
returns-in-Err-clause-no_room c =
    room_same c.self.inside.room c.undo_room.new.room
    (room_undone c.self.inside.room c.add.new.self c.undo_room.new.room c.args.path.now c.in_ok-added.added c.in_ok-added.ensures.answer
    c.in_ok-added.ensures.ok c.undo_room.ensures)
    ∙ ap (λ m. m.room) c.self.view_is

pub returns-then-puts-clause-answer : goal.returns-then-puts-clause-answer
returns-then-puts-clause-answer c =
    c.in-Ok.ensures.answer
    ∙ fills_is c.self.inside.slots.entries c.fill_slot.new.slots.entries c.self.inside.room c.self.inside.elements c.args.path.now
    ∙ ap (λ m. not (map.contains_key m.map c.args.path.now)) c.self.view_is

pub returns-then-puts-clause-ok : goal.returns-then-puts-clause-ok
returns-then-puts-clause-ok c =
    after_fill c.self.inside.slots.entries c.fill_slot.new.slots.entries c.self.inside.room c.self.inside.elements c.args.path.now c.args.element c.in-Ok.ensures.ok
    ∙ ap (λ m. with_new m.map c.args.path.now c.args.element) c.self.view_is

pub returns-then-puts-clause-room : goal.returns-then-puts-clause-room
returns-then-puts-clause-room c =
    room_added c.self.inside.room c.add.new.self c.args.path.now c.in_ok-added.ensures.ok
    ∙ ap (λ m. with_room m.room c.args.path.now) c.self.view_is

pub returns-else-puts-clause-answer : goal.returns-else-puts-clause-answer
returns-else-puts-clause-answer c =
    c.in-Ok.ensures.answer
    ∙ fills_is c.self.inside.slots.entries c.fill_slot.new.slots.entries c.self.inside.room c.self.inside.elements c.args.path.now
    ∙ ap (λ m. not (map.contains_key m.map c.args.path.now)) c.self.view_is

pub returns-else-puts-clause-ok : goal.returns-else-puts-clause-ok
returns-else-puts-clause-ok c =
    after_fill c.self.inside.slots.entries c.fill_slot.new.slots.entries c.self.inside.room c.self.inside.elements c.args.path.now c.args.element c.in-Ok.ensures.ok
    ∙ ap (λ m. with_new m.map c.args.path.now c.args.element) c.self.view_is

pub returns-else-puts-clause-room : goal.returns-else-puts-clause-room
returns-else-puts-clause-room c =
    room_added c.self.inside.room c.add.new.self c.args.path.now c.in_ok-added.ensures.ok
    ∙ ap (λ m. with_room m.room c.args.path.now) c.self.view_is
