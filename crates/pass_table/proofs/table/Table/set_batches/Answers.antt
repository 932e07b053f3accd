use Rattle.std.proofs.Common.{sym, ap, ◌∙◌, subst}
use Rattle.std.specs.FinMap as map
use Rattle.std.specs.FinMap.{nat_cmp-IsAntisymmetric}
use Rattle.std.specs.Prelude.{IsSome}
use Rattle.std.proofs.lemmas.Cmp.{nat_cmp_total}
use Rattle.job_queue.proofs.Tables.{get_is, one_changed}
use Rattle.pass_table.specs.Passes.{Table}
use Rattle.job_queue.specs.Changed.{changed}
use Rattle.pass_table.specs.Rows.{with_batches}
use Rattle.pass_table.proofs.table.Table.set_batches.Goals as goal

pub returns : goal.returns
returns c =
    one_changed nat_cmp_total nat_cmp-IsAntisymmetric c.self.inside.passes.entries c.set_batches.new.passes.entries c.args.number (with_batches c.args.batches) c.set_batches.ensures.0
    ∙ ap (λ (m : Table). changed (with_batches c.args.batches) c.args.number m) c.self.view_is

pub set_batches-requires : goal.set_batches-requires
set_batches-requires c =
    subst IsSome (ap (λ (m : Table). map.get m c.args.number) (sym c.self.view_is) ∙ get_is nat_cmp_total c.self.inside.passes.entries c.args.number) c.requires
