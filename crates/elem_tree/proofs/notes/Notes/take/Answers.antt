use Rattle.std.proofs.Common.{ap, ◌∙◌}
use Rattle.std.specs.FinMap as map
use Rattle.ws_elem.proofs.Ordered.{one_taken}
use Rattle.elem_tree.proofs.notes.Notes.take.Goals as goal

pub returns : goal.returns
returns c = one_taken c.self.inside.slots.entries c.remove.new.self.entries c.args.path.now c.remove.ensures.updates.0 ∙ ap (λ m. map.remove m c.args.path.now) c.self.view_is
