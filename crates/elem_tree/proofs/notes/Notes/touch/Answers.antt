use Rattle.std.proofs.Common.{ap, ◌∙◌}
use Rattle.elem_tree.specs.Inside.Slots.{touched_at}
use Rattle.elem_tree.proofs.Entries.{known_slot, touches}
use Rattle.elem_tree.proofs.notes.Notes.touch.Goals as goal

pub touch_slot-requires : goal.touch_slot-requires
touch_slot-requires c = known_slot c.self.inside.slots.entries c.args.self.now c.args.path.now c.self.view_is c.requires

pub returns : goal.returns
returns c =
    touches c.self.inside.slots.entries c.touch_slot.new.slots.entries c.args.path.now c.touch_slot.ensures
    ∙ ap (λ m. touched_at m c.args.path.now) c.self.view_is
