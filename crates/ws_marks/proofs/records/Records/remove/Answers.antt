use Rattle.std.proofs.Common.{ap, sym, ◌∙◌}
use Rattle.std.specs.FinMap as map
use Rattle.std.specs.FinMap.{get-from_sorted}
use Rattle.ws_marks.specs.Places.{Place, Records, place_cmp}
use Rattle.ws_marks.specs.Inside.{placed}
use Rattle.ws_marks.proofs.records.Records.remove.Goals as goal

pub returns-clause-found : goal.returns-clause-found
returns-clause-found g c =
    let k : Place = (c.args.project.now, c.args.index) in
    c.remove.ensures.found ∙ sym (get-from_sorted place_cmp (placed c.self.inside.records.items) k c.self.invariant)
    ∙ ap (λ (m : Records g.row.M.Denot). map.get m k) c.self.view_is

pub returns-clause-rest : goal.returns-clause-rest
returns-clause-rest g c = c.remove.ensures.rest ∙ ap (λ (m : Records g.row.M.Denot). map.remove m (c.args.project.now, c.args.index)) c.self.view_is
