use Rattle.std.proofs.Common.{◌≡◌, take, sym, ap, subst, ◌∙◌}
use Rattle.ws_elem.specs.Trees.{Tree}
use Rattle.op_kind.specs.declared.side.Side.{Side}
use Rattle.op_plan.specs.Backs.{HasWay}
use Rattle.op_plan.specs.Edits.{HasRooms, changed}
use Rattle.op_kind.specs.Partners.{with_partner}
use Rattle.op_kind.specs.Resources.{resources}
use Rattle.op_plan.proofs.Effected.{undone}
use Rattle.op_plan.proofs.Made.{rooms_undoing, partners_back}
use Rattle.ws_ops.proofs.applying.perform.Goals as goal

pub returns-clause-back : goal.returns-clause-back
returns-clause-back g c =
    let side = c.args.side.now in
    let plan = c.args.plan in
    let tree : Tree = g.T.TreeRep.tree c.make_room.new.tree in
    let roomy : Side = record side { shelf = c.make_room-2.new.tree } in
    let now : Side = c.register.new.side in
    let registered : now ≡ record roomy { partners = with_partner side.partners plan.partner } = c.in_ok-register.ensures.ok in
    let tree_entries = c.make-tree_entries in
    let shelf_entries = c.make-shelf_entries in
    let tree_back : changed (g.T.TreeRep.tree tree_entries.new.tree) tree_entries.result ≡ g.T.TreeRep.tree c.args.tree.now =
    (λ i. changed (tree_entries.ensures.tree i) (tree_entries.ensures.earlier i)) ∙ undone tree plan.tree ∙ c.in_ok-make_room.ensures.tree in
    let shelf_back : changed shelf_entries.new.tree.map shelf_entries.result ≡ side.shelf.map =
    (λ i. changed (shelf_entries.ensures.tree i) (shelf_entries.ensures.earlier i)) ∙ undone now.shelf.map plan.shelf
    ∙ ap (λ (s : Side). s.shelf.map) registered ∙ c.in_ok-make_room-2.ensures.tree in
    let partners : take c.len-partners.result now.partners ≡ side.partners =
    (λ i. take (c.len-partners.ensures i) (registered i).partners) ∙ partners_back side.partners plan.partner in
    let shelf_rooms : HasRooms now.shelf.room plan.shelf =
    subst (λ (s : Side). HasRooms s.shelf.room plan.shelf) (sym registered) c.in_ok-make_room-2.ensures.ok in
    subst (λ w. HasWay w (g.T.TreeRep.room tree_entries.new.tree) shelf_entries.new.tree.room
    (resources (g.T.TreeRep.tree tree_entries.new.tree) (record now { shelf = shelf_entries.new.tree; next_node = plan.next_node; next_stamp = plan.next_stamp; next_marker = plan.next_marker }))
    (resources (g.T.TreeRep.tree c.args.tree.now) side)) (sym c.to-back.ensures) (record {
      leads = λ i. record {
        tree = tree_back i;
        shelf = shelf_back i;
        next_node = (registered i).next_node;
        next_stamp = (registered i).next_stamp;
        next_marker = (registered i).next_marker;
        partners = partners i;
      };
      tree_rooms = subst (λ r. HasRooms r tree_entries.result) (sym tree_entries.ensures.room)
          (subst (HasRooms (g.T.TreeRep.room c.make_room.new.tree)) (sym tree_entries.ensures.earlier)
          (rooms_undoing (g.T.TreeRep.room c.make_room.new.tree) tree plan.tree c.in_ok-make_room.ensures.ok));
      shelf_rooms = subst (λ r. HasRooms r shelf_entries.result) (sym shelf_entries.ensures.room)
          (subst (HasRooms now.shelf.room) (sym shelf_entries.ensures.earlier)
          (rooms_undoing now.shelf.room now.shelf.map plan.shelf shelf_rooms));
    })
