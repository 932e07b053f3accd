use Rattle.std.proofs.Common.{sym, ap, ◌∙◌}
use Rattle.std.specs.FinMap as map
use Rattle.std.proofs.lemmas.Cmp.{nat_cmp_total}
use Rattle.job_queue.proofs.Tables.{get_is}
use Rattle.pass_table.specs.Passes.{Table}
use Rattle.pass_table.proofs.table.Table.get.Goals as goal

pub returns : goal.returns
returns c = c.get.ensures.value ∙ sym (get_is nat_cmp_total c.self.inside.passes.entries c.args.number) ∙ ap (λ (m : Table). map.get m c.args.number) c.self.view_is
