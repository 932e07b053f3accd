use Rattle.std.proofs.Common.{ap, sym, ◌∙◌}
use Rattle.std.specs.FinMap as map
use Rattle.mark_set.proofs.Lengths.{len_is}
use Rattle.mark_set.proofs.table.Table.len.Goals as goal

pub returns : goal.returns
returns c = c.len.ensures.len ∙ sym (len_is c.self.inside.markers.entries c.len.ensures.unique) ∙ ap map.len c.self.view_is
