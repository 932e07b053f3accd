use Rattle.std.proofs.Common.{ap, ◌∙◌}
use Rattle.std.specs.FinMap as map
use Rattle.ws_elem.proofs.Ordered.{one_put}
use Rattle.elem_tree.proofs.Entries.{has_slot}
use Rattle.elem_tree.proofs.notes.Notes.set.Goals as goal

pub fill_slot-requires : goal.fill_slot-requires
fill_slot-requires c = has_slot c.self.inside.slots.entries c.args.self.now c.args.path.now c.self.view_is c.requires

pub returns : goal.returns
returns c =
    one_put c.self.inside.slots.entries c.fill_slot.new.slots.entries c.args.path.now c.args.slot c.fill_slot.ensures
    ∙ ap (λ m. map.insert m c.args.path.now c.args.slot) c.self.view_is
