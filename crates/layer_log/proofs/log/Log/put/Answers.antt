use Rattle.std.proofs.Common.{ap, ◌∙◌}
use Rattle.std.specs.FinMap as map
use Rattle.ws_elem.proofs.Ordered.{one_put}
use Rattle.layer_log.proofs.log.Log.put.Goals as goal

pub returns-clause-ok : goal.returns-clause-ok
returns-clause-ok c = one_put c.self.inside.entries.entries c.insert.new.self.entries c.args.path c.args.change c.in_ok-insert.ensures.updates.0 ∙ ap (λ m. map.insert m c.args.path c.args.change) c.self.view_is
