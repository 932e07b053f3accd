use Rattle.std.proofs.Common.{ap, sym, ◌∙◌}
use Rattle.std.specs.FinMap as map
use Rattle.std.specs.FinMap.{get-from_sorted}
use Rattle.std.specs.FinMap.Entries.{find}
use Rattle.ws_marks.specs.Places.{Place, Records, place_cmp}
use Rattle.ws_marks.specs.Inside.{placed}
use Rattle.ws_marks.proofs.records.Records.get.Goals as goal

pub returns : goal.returns
returns g c =
    let k : Place = (c.args.project.now, c.args.index) in
    c.get.ensures ∙ ap (λ rs. find place_cmp k (placed rs)) c.as_slice.ensures.value ∙ sym (get-from_sorted place_cmp (placed c.self.inside.records.items) k c.self.invariant)
    ∙ ap (λ (m : Records g.row.M.Denot). map.get m k) c.self.view_is
