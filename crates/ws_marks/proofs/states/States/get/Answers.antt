use Rattle.std.proofs.Common.{ap, sym, ◌∙◌}
use Rattle.std.specs.FinMap as map
use Rattle.ws_marks.specs.Places.{States}
use Rattle.ws_marks.proofs.Kept.{get_is}
use Rattle.ws_marks.proofs.Places.{name_cmp_total}
use Rattle.ws_marks.proofs.states.States.get.Goals as goal

pub returns : goal.returns
returns g c = c.get.ensures.value ∙ sym (get_is name_cmp_total c.self.inside.states.entries c.args.name.now) ∙ ap (λ (m : States g.row.M.Denot). map.get m c.args.name.now) c.self.view_is
