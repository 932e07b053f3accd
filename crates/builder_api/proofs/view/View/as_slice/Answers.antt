use Rattle.std.proofs.Common.{sym, ap, ◌∙◌}
use Rattle.std.specs.FinMap.{entries}
use Rattle.ws_elem.proofs.Ordered.{entries_is}
use Rattle.builder_api.proofs.view.View.as_slice.Goals as goal

pub returns : goal.returns
returns c = c.as_slice.ensures.value ∙ sym (entries_is c.self.inside.files.items c.self.invariant) ∙ ap entries c.self.view_is
