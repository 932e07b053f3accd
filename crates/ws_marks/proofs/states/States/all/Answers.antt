use Rattle.std.proofs.Common.{map, sym, ap, ◌∙◌}
use Rattle.std.specs.FinMap.{values}
use Rattle.ws_marks.specs.Places.{States}
use Rattle.ws_marks.proofs.Kept.{entries_is}
use Rattle.ws_marks.proofs.Places.{name_cmp_exact, name_cmp_total}
use Rattle.ws_marks.proofs.states.States.all.Goals as goal

pub returns : goal.returns
returns g c =
    c.values.ensures.rest ∙ ap (map (λ e. e.1)) (sym (entries_is name_cmp_total name_cmp_exact c.self.inside.states.entries c.values.ensures.ordered))
    ∙ ap (λ (m : States g.row.M.Denot). values m) c.self.view_is
