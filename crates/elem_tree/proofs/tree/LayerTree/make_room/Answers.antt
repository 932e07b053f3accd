use Rattle.std.proofs.Common.{refl, subst}
use Rattle.elem_tree.specs.Inside.Shown.{IsKept}
use Rattle.elem_tree.proofs.Seals.{current_kept}
use Rattle.elem_tree.proofs.tree.LayerTree.make_room.Goals as goal

pub invariant_of-self : goal.invariant_of-self
invariant_of-self c =
    current_kept c.self.inside.layers.items c.in-Some.current (record { mark = c.in-Some.current.mark; notes = c.make_room_noted.new.notes }) c.self.inside.next c.self.inside.newest.map c.make_room_noted.new.newest.map
    c.self.inside.newest.room c.make_room_noted.new.newest.room (subst (λ k. IsKept c.self.inside.layers.items k c.self.inside.next c.self.inside.newest.map c.self.inside.newest.room) c.in-Some.is c.self.invariant)
    refl c.make_room_noted.ensures.ready
