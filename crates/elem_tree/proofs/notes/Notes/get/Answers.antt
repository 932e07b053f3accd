use Rattle.std.proofs.Common.{ap, sym, ◌∙◌}
use Rattle.std.specs.FinMap as map
use Rattle.ws_elem.proofs.Ordered.{get_is}
use Rattle.elem_tree.proofs.notes.Notes.get.Goals as goal

pub returns : goal.returns
returns c = c.get.ensures.value ∙ sym (get_is c.self.inside.slots.entries c.args.path.now) ∙ ap (λ m. map.get m c.args.path.now) c.self.view_is
