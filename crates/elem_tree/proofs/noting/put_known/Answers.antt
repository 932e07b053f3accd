use Rattle.std.proofs.Common.{sym, ap, subst, ◌∙◌}
use Rattle.std.specs.FinMap as map
use Rattle.ws_elem.specs.Rooms.{has_room}
use Rattle.layer_log.proofs.Looks.{put_elsewhere}
use Rattle.elem_tree.specs.Inside.Slots.{IsReady, befores_of}
use Rattle.elem_tree.proofs.Slots.{no_room_after, stays_noted, touch_ready}
use Rattle.elem_tree.proofs.noting.put_known.Goals as goal

pub returns-in-Ok-clause-noted : goal.returns-in-Ok-clause-noted
returns-in-Ok-clause-noted c =
    (touch_ready c.args.notes.now c.args.newest.now.map c.args.newest.now.room c.args.path c.requires.ready c.put.new.self.map c.touch.new.self c.requires.known c.touch.ensures
    (λ q h. ap (λ t. map.get t q) c.in-Ok.ensures.ok ∙ put_elsewhere c.args.newest.now.map c.args.path q c.args.element h)).1

pub returns-in-Ok-clause-ready : goal.returns-in-Ok-clause-ready
returns-in-Ok-clause-ready c =
    subst (IsReady c.touch.new.self c.put.new.self.map) (sym c.put.ensures.room)
    (touch_ready c.args.notes.now c.args.newest.now.map c.args.newest.now.room c.args.path c.requires.ready c.put.new.self.map c.touch.new.self c.requires.known c.touch.ensures
    (λ q h. ap (λ t. map.get t q) c.in-Ok.ensures.ok ∙ put_elsewhere c.args.newest.now.map c.args.path q c.args.element h)).0

pub returns-in-Err-clause-err : goal.returns-in-Err-clause-err
returns-in-Err-clause-err c = (
  c.in-Err.ensures.err,
  ap befores_of (c.touch.ensures ∙ stays_noted c.args.notes.now c.args.newest.now.map c.args.newest.now.room c.args.path c.requires.ready c.requires.known
      (no_room_after c.put.result c.in-Err.wanted (has_room c.args.newest.now.room c.args.path) c.in-Err.is c.put.ensures.never)),
)

pub returns-in-Err-clause-ready : goal.returns-in-Err-clause-ready
returns-in-Err-clause-ready c =
    subst (IsReady c.touch.new.self c.put.new.self.map) (sym c.put.ensures.room)
    (subst (λ t. IsReady c.touch.new.self t c.args.newest.now.room) (sym c.in-Err.ensures.err)
    (subst (λ n. IsReady n c.args.newest.now.map c.args.newest.now.room)
    (sym (c.touch.ensures ∙ stays_noted c.args.notes.now c.args.newest.now.map c.args.newest.now.room c.args.path c.requires.ready c.requires.known
    (no_room_after c.put.result c.in-Err.wanted (has_room c.args.newest.now.room c.args.path) c.in-Err.is c.put.ensures.never)))
    c.requires.ready))
