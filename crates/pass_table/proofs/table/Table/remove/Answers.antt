use Rattle.std.proofs.Common.{ap, ◌∙◌}
use Rattle.std.specs.FinMap as map
use Rattle.std.specs.FinMap.{nat_cmp-IsAntisymmetric}
use Rattle.std.proofs.lemmas.Cmp.{nat_cmp_total}
use Rattle.job_queue.proofs.Tables.{one_taken}
use Rattle.pass_table.specs.Passes.{Table}
use Rattle.pass_table.proofs.table.Table.remove.Goals as goal

pub returns : goal.returns
returns c =
    one_taken nat_cmp_total nat_cmp-IsAntisymmetric c.self.inside.passes.entries c.remove.new.self.entries c.args.number c.remove.ensures.updates.0
    ∙ ap (λ (m : Table). map.remove m c.args.number) c.self.view_is
