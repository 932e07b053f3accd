use Rattle.std.proofs.Common.{ap, sym, ◌∙◌}
use Rattle.std.specs.FinMap as map
use Rattle.mark_set.proofs.Ids.{get_is}
use Rattle.mark_set.proofs.table.Table.get.Goals as goal

pub returns-clause-value : goal.returns-clause-value
returns-clause-value c = c.get.ensures.value ∙ sym (get_is c.self.inside.markers.entries c.args.id) ∙ ap (λ m. map.get m c.args.id) c.self.view_is
