use Rattle.std.proofs.Common.{sym, ap, subst, ◌∙◌}
use Rattle.std.specs.FinMap as map
use Rattle.ws_elem.specs.Rooms.{with_room}
use Rattle.elem_tree.specs.Inside.Slots.{IsReady, befores_of, readied_at}
use Rattle.elem_tree.proofs.Rooms.{at_room, readied_befores, not_made}
use Rattle.elem_tree.proofs.noting.make_room_noted.Goals as goal

pub returns-in-Ok-clause-ready : goal.returns-in-Ok-clause-ready
returns-in-Ok-clause-ready c =
    subst (IsReady c.ready.new.self c.make_room.new.self.map) (sym c.in-Ok.ensures.ok)
    (subst (λ t. IsReady c.ready.new.self t (with_room c.args.newest.now.room c.args.path.now)) (sym c.make_room.ensures.map)
    (subst (λ s. IsReady s c.args.newest.now.map (with_room c.args.newest.now.room c.args.path.now))
    (sym (c.in_ok-is_new.ensures.ok ∙ ap (readied_at c.args.notes.now c.args.path.now) (c.get.ensures ∙ ap (λ t. map.get t.map c.args.path.now) c.elements.ensures)))
    (at_room c.args.notes.now c.args.newest.now.map c.args.newest.now.room c.args.path.now c.requires.ready)))

pub returns-in-Ok-clause-noted : goal.returns-in-Ok-clause-noted
returns-in-Ok-clause-noted c = ap befores_of (c.in_ok-is_new.ensures.ok ∙ ap (readied_at c.args.notes.now c.args.path.now) (c.get.ensures ∙ ap (λ t. map.get t.map c.args.path.now) c.elements.ensures)) ∙ readied_befores c.args.notes.now c.args.path.now _

pub returns-in-Err-clause-ready : goal.returns-in-Err-clause-ready
returns-in-Err-clause-ready c =
    subst (IsReady c.unready.new.notes c.make_room.new.self.map) (sym c.in-Err.ensures.err)
    (subst (λ t. IsReady c.unready.new.notes t c.args.newest.now.room) (sym c.make_room.ensures.map)
    (not_made c.args.notes.now c.ready.new.self c.unready.new.notes c.args.newest.now.map c.args.newest.now.room c.args.path.now _ c.in_ok-is_new.is_new c.requires.ready
    c.in_ok-is_new.ensures.answer c.in_ok-is_new.ensures.ok c.unready.ensures).0)

pub returns-in-Err-clause-noted : goal.returns-in-Err-clause-noted
returns-in-Err-clause-noted c =
    (not_made c.args.notes.now c.ready.new.self c.unready.new.notes c.args.newest.now.map c.args.newest.now.room c.args.path.now _ c.in_ok-is_new.is_new c.requires.ready
    c.in_ok-is_new.ensures.answer c.in_ok-is_new.ensures.ok c.unready.ensures).1
