use Rattle.std.proofs.Common.{◌≡◌, take, sym, ap, subst, ◌∙◌}
use Rattle.std.proofs.Math.Seq.{take-length}
use Rattle.ws_elem.specs.Trees.{Tree}
use Rattle.op_kind.specs.declared.side.Side.{Side}
use Rattle.op_kind.specs.Resources.{resources}
use Rattle.op_plan.specs.Backs.{HasWay}
use Rattle.op_plan.specs.Edits.{HasRooms, changed}
use Rattle.op_plan.proofs.Effected.{undone}
use Rattle.op_plan.proofs.Made.{rooms_undoing}
use Rattle.output_commit.proofs.committing.perform.Goals as goal

pub returns-clause-back : goal.returns-clause-back
returns-clause-back g c =
    let side : Side = c.args.side.now in
    let change = c.args.change in
    let tree : Tree = g.T.TreeRep.tree c.make_room.new.tree in
    let made = c.make-earlier in
    let tree_back : changed (g.T.TreeRep.tree made.new.tree) made.result ≡ g.T.TreeRep.tree c.args.tree.now =
    (λ i. changed (made.ensures.tree i) (made.ensures.earlier i)) ∙ undone tree change.edits ∙ c.in_ok-make_room.ensures.tree in
    let shelf_back : changed side.shelf.map c.nothing.result ≡ side.shelf.map = ap (changed side.shelf.map) c.nothing.ensures in
    let partners : take c.len-partners.result side.partners ≡ side.partners = ap (λ n. take n side.partners) c.len-partners.ensures ∙ take-length side.partners in
    subst (λ w. HasWay w (g.T.TreeRep.room made.new.tree) side.shelf.room
    (resources (g.T.TreeRep.tree made.new.tree) (record side { next_node = change.next_node; next_stamp = change.next_stamp; next_marker = change.next_marker }))
    (resources (g.T.TreeRep.tree c.args.tree.now) side)) (sym c.to-back.ensures) (record {
      leads = λ i. record {
        tree = tree_back i;
        shelf = shelf_back i;
        next_node = side.next_node;
        next_stamp = side.next_stamp;
        next_marker = side.next_marker;
        partners = partners i;
      };
      tree_rooms = subst (λ r. HasRooms r made.result) (sym made.ensures.room)
          (subst (HasRooms (g.T.TreeRep.room c.make_room.new.tree)) (sym made.ensures.earlier)
          (rooms_undoing (g.T.TreeRep.room c.make_room.new.tree) tree change.edits c.in_ok-make_room.ensures.ok));
      shelf_rooms = subst (HasRooms side.shelf.room) (sym c.nothing.ensures) tt;
    })
