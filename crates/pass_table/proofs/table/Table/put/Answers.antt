use Rattle.std.proofs.Common.{ap, ◌∙◌}
use Rattle.std.specs.FinMap as map
use Rattle.std.specs.FinMap.{nat_cmp-IsAntisymmetric}
use Rattle.std.proofs.lemmas.Cmp.{nat_cmp_total}
use Rattle.job_queue.proofs.Tables.{one_put}
use Rattle.pass_table.specs.Passes.{Table}
use Rattle.pass_table.proofs.table.Table.put.Goals as goal

pub returns-clause-ok : goal.returns-clause-ok
returns-clause-ok c =
    one_put nat_cmp_total nat_cmp-IsAntisymmetric c.self.inside.passes.entries c.insert.new.self.entries c.args.number c.args.pass c.in_ok-insert.ensures.updates.0
    ∙ ap (λ (m : Table). map.insert m c.args.number c.args.pass) c.self.view_is
