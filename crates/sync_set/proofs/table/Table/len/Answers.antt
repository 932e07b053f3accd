use Rattle.std.proofs.Common.{ap, sym, ◌∙◌}
use Rattle.std.specs.FinMap as map
use Rattle.sync_set.proofs.Tables.{len_is}
use Rattle.sync_set.proofs.table.Table.len.Goals as goal

pub returns : goal.returns
returns c = c.len.ensures.len ∙ sym (len_is c.self.inside.entries.entries c.len.ensures.ordered) ∙ ap map.len c.self.view_is
