use Rattle.std.proofs.Common.{ap, ◌∙◌}
use Rattle.pass_table.specs.Passes.{Passes, is_quiet}
use Rattle.pass_table.proofs.Kept.{quiet}
use Rattle.pass_table.proofs.passes.Passes.is_quiet.Goals as goal

pub returns : goal.returns
returns g c = quiet c.self.inside.there c.self.inside.next c.self.inside.in_batch c.self.invariant ∙ ap (λ (v : Passes g.row.A.Denot). is_quiet v) c.self.view_is
