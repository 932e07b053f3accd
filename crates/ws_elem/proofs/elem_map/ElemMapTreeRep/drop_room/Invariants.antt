use Rattle.std.proofs.Common.{◌≡◌, length}
use Rattle.ws_elem.specs.Inside.Slots.{tree_of, IsKept}
use Rattle.ws_elem.proofs.elem_map.ElemMapTreeRep.drop_room.Given as goal

abbrev pub invariant-loop-path : goal.invariant-loop-path
invariant-loop-path l = (tree_of l.self-inside.slots.entries ≡ l.fn.self.map) × IsKept l.self-inside.slots.entries l.self-inside.room l.self-inside.elements

abbrev pub decreases-loop-path : goal.decreases-loop-path
decreases-loop-path l = length l.self-inside.room
