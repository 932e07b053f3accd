use Rattle.std.proofs.Common.{◌∙◌}
use Rattle.ws_marks.proofs.Tables.{all_listed}
use Rattle.ws_marks.proofs.records.Records.all.Goals as goal

pub returns : goal.returns
returns g c = c.as_slice.ensures.value ∙ all_listed c.self.inside.records.items c.args.self.now c.self.invariant c.self.view_is
