use Rattle.std.proofs.Common.{ap, ◌∙◌}
use Rattle.std.specs.FinMap as map
use Rattle.delta_kind.proofs.Table.{one_put}
use Rattle.delta_kind.proofs.places.Places.put.Goals as goal

pub returns : goal.returns
returns c = one_put c.self.inside.paths.entries c.insert.new.self.entries c.args.node c.args.path c.in_ok-insert.ensures.updates.0 ∙ ap (λ m. map.insert m c.args.node c.args.path) c.self.view_is
