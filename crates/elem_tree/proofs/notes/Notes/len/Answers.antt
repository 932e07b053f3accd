use Rattle.std.proofs.Common.{ap, sym, ◌∙◌}
use Rattle.std.specs.FinMap as map
use Rattle.ws_elem.proofs.Ordered.{len_is}
use Rattle.elem_tree.proofs.notes.Notes.len.Goals as goal

pub returns : goal.returns
returns c = c.len.ensures.len ∙ sym (len_is c.self.inside.slots.entries c.len.ensures.ordered) ∙ ap map.len c.self.view_is
