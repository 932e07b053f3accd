use Rattle.std.proofs.Common.{sym, ap, subst, ◌∙◌}
use Rattle.elem_tree.specs.Inside.Slots.{IsReady, NoneReady, befores_of}
use Rattle.elem_tree.proofs.Rooms.{closed_befores, none_ready, no_room_ready}
use Rattle.elem_tree.proofs.noting.drop_room_noted.Goals as goal

pub returns-clause-ready : goal.returns-clause-ready
returns-clause-ready c =
    subst (IsReady c.close_all.new.self c.drop_room.new.self.map) (sym c.drop_room.ensures.room)
    (no_room_ready c.close_all.new.self c.drop_room.new.self.map
    (subst NoneReady (sym c.close_all.ensures) (none_ready c.roomy.result.now c.args.notes.now c.args.newest.now.map c.args.newest.now.room c.roomy.ensures c.requires.ready)))

pub returns-clause-noted : goal.returns-clause-noted
returns-clause-noted c = ap befores_of c.close_all.ensures ∙ closed_befores c.roomy.result.now c.args.notes.now
