use Rattle.std.proofs.Common.{◌∙◌, ap}
use Rattle.ws_elem.specs.Rooms.{with_room}
use Rattle.op_plan.proofs.Made.{rooms_more, keeps_more}
use Rattle.op_plan.proofs.edits.Edits.make_room.Goals as goal

pub loop-edit-preserved : goal.loop-edit-preserved
loop-edit-preserved g c =
    let before = g.T.TreeRep.room c.loop-edit.tree in
    let after = g.T.TreeRep.room c.make_room.new.self in
    let more = c.in_ok-make_room.ensures.ok ∙ ap (with_room before) c.path.ensures in
    record {
      tree = c.make_room.ensures.tree ∙ c.loop-edit.invariant.tree;
      kept = keeps_more (g.T.TreeRep.room c.args.tree.now) before after c.edit-item.result.0 c.loop-edit.invariant.kept more;
      rooms = rooms_more before after c.as_slice-edit-items.result.now c.loop-edit.edit-index c.edit-item.result c.loop-edit-test.true c.edit-item.is more c.loop-edit.invariant.rooms;
      remembered = c.make_room.ensures.remembered ∙ c.loop-edit.invariant.remembered;
    }
