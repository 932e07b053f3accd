use Rattle.std.proofs.Common.{ap, sym, ◌∙◌}
use Rattle.std.specs.FinMap as map
use Rattle.ws_elem.proofs.Ordered.{entries_is}
use Rattle.elem_tree.proofs.notes.Notes.iter.Goals as goal

pub returns : goal.returns
returns c = c.iter.ensures.rest ∙ sym (entries_is c.self.inside.slots.entries c.iter.ensures.ordered) ∙ ap map.entries c.self.view_is
