use Rattle.std.proofs.Common.{ap, sym, ◌∙◌}
use Rattle.std.specs.FinMap as map
use Rattle.sync_set.proofs.Tables.{get_is}
use Rattle.sync_set.proofs.table.Table.get.Goals as goal

pub returns : goal.returns
returns c = c.get.ensures.value ∙ sym (get_is c.self.inside.entries.entries c.args.partner) ∙ ap (λ m. map.get m c.args.partner) c.self.view_is
