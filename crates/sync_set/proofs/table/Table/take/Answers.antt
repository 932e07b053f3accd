use Rattle.std.proofs.Common.{ap, ◌∙◌}
use Rattle.std.specs.FinMap as map
use Rattle.sync_set.proofs.Tables.{one_taken}
use Rattle.sync_set.proofs.table.Table.take.Goals as goal

pub returns : goal.returns
returns c = one_taken c.self.inside.entries.entries c.remove.new.self.entries c.args.partner c.remove.ensures.updates.0 ∙ ap (λ m. map.remove m c.args.partner) c.self.view_is
