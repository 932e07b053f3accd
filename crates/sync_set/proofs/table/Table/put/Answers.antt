use Rattle.std.proofs.Common.{ap, ◌∙◌}
use Rattle.std.specs.FinMap as map
use Rattle.sync_set.proofs.Tables.{one_put}
use Rattle.sync_set.proofs.table.Table.put.Goals as goal

pub returns-clause-ok : goal.returns-clause-ok
returns-clause-ok c = one_put c.self.inside.entries.entries c.insert.new.self.entries c.args.partner c.args.bytes c.in_ok-insert.ensures.updates.0 ∙ ap (λ m. map.insert m c.args.partner c.args.bytes) c.self.view_is
