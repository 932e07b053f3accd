use Rattle.std.proofs.Common.{ap, ◌∙◌}
use Rattle.ws_elem.specs.Rooms.{has_room, with_room}
use Rattle.elem_tree.proofs.Rooms.{has_here}
use Rattle.elem_tree.proofs.Slots.{err_ok}
use Rattle.elem_tree.proofs.tree.LayerTree.put_new.Goals as goal

pub returns-in_err-put-clause-err : goal.returns-in_err-put-clause-err
returns-in_err-put-clause-err c =
    err_ok c.put.result _ c.in_err-put.was (c.put.ensures.never
    (ap (λ v. has_room v.room c.in_ok-at.at) c.in_ok-make_room.ensures.ok
    ∙ ap (has_room (with_room c.args.self.now.room c.args.path.now)) c.in_ok-at.ensures ∙ has_here c.args.self.now.room c.args.path.now))
