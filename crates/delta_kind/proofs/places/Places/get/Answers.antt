use Rattle.std.proofs.Common.{ap, sym, ◌∙◌}
use Rattle.std.specs.FinMap as map
use Rattle.delta_kind.proofs.Table.{get_is}
use Rattle.delta_kind.proofs.places.Places.get.Goals as goal

pub returns : goal.returns
returns c = c.get.ensures.value ∙ sym (get_is c.self.inside.paths.entries c.args.node) ∙ ap (λ m. map.get m c.args.node) c.self.view_is
