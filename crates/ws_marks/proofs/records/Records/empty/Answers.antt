use Rattle.std.proofs.Common.{ap, ◌∙◌}
use Rattle.std.specs.FinMap.{from_sorted}
use Rattle.ws_marks.specs.Places.{place_cmp}
use Rattle.ws_marks.specs.Inside.{placed}
use Rattle.ws_marks.proofs.Tables.{none_is}
use Rattle.ws_marks.proofs.records.Records.empty.Goals as goal

pub returns : goal.returns
returns g c = ap (λ rs. from_sorted {R = place_cmp} (placed rs)) c.new.ensures.items ∙ none_is
