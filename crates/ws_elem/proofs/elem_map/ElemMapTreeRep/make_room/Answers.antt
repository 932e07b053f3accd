use Rattle.std.proofs.Common.{ap, sym, ◌∙◌}
use Rattle.ws_elem.specs.Rooms.{with_room}
use Rattle.ws_elem.proofs.Kept.{after_open, kept_open, kept_undone, room_added, room_again}
use Rattle.ws_elem.proofs.elem_map.ElemMapTreeRep.make_room.Goals as goal

pub returns-then-contains-clause-ok : goal.returns-then-contains-clause-ok
returns-then-contains-clause-ok c =
    sym (ap (λ m. m.room) c.self.view_is) ∙ room_again c.self.inside.room c.args.path.now (sym c.contains.ensures ∙ c.if-contains.true)
    ∙ ap (λ m. with_room m.room c.args.path.now) c.self.view_is

pub invariant_of-self-in-Err : goal.invariant_of-self-in-Err
invariant_of-self-in-Err c =
    (kept_undone c.self.inside.slots.entries c.open_slot.new.slots.entries c.close_slot.new.slots.entries c.self.inside.room c.add.new.self
    c.self.inside.elements c.args.path.now c.self.invariant (sym c.contains.ensures ∙ c.if-contains.false) c.in_ok-open_slot.ensures.ok c.close_slot.ensures
    c.in-Err.ensures.err).0

pub returns-in-Err-clause-tree : goal.returns-in-Err-clause-tree
returns-in-Err-clause-tree c =
    (kept_undone c.self.inside.slots.entries c.open_slot.new.slots.entries c.close_slot.new.slots.entries c.self.inside.room c.add.new.self
    c.self.inside.elements c.args.path.now c.self.invariant (sym c.contains.ensures ∙ c.if-contains.false) c.in_ok-open_slot.ensures.ok c.close_slot.ensures
    c.in-Err.ensures.err).1
    ∙ ap (λ m. m.map) c.self.view_is

pub invariant_of-self-in_default : goal.invariant_of-self-in_default
invariant_of-self-in_default c =
    kept_open c.self.inside.slots.entries c.open_slot.new.slots.entries c.self.inside.room c.self.inside.elements c.args.path.now c.add.new.self
    c.self.invariant c.in_ok-open_slot.ensures.ok c.in_default.ensures.ok

pub returns-clause-tree : goal.returns-clause-tree
returns-clause-tree c =
    after_open c.self.inside.slots.entries c.open_slot.new.slots.entries c.self.inside.room c.self.inside.elements c.args.path.now c.in_ok-open_slot.ensures.ok
    ∙ ap (λ m. m.map) c.self.view_is

pub returns-clause-ok : goal.returns-clause-ok
returns-clause-ok c =
    room_added c.self.inside.room c.add.new.self c.args.path.now c.in_default.ensures.ok
    ∙ ap (λ m. with_room m.room c.args.path.now) c.self.view_is
