use Rattle.std.proofs.Common.{sym, ap, ◌∙◌, subst}
use Rattle.std.specs.FinMap as map
use Rattle.std.specs.FinMap.{nat_cmp-IsAntisymmetric}
use Rattle.std.specs.Prelude.{IsSome}
use Rattle.std.proofs.lemmas.Cmp.{nat_cmp_total}
use Rattle.job_queue.proofs.Tables.{get_is, one_changed}
use Rattle.pass_table.specs.Passes.{Table}
use Rattle.job_queue.specs.Changed.{changed}
use Rattle.pass_table.specs.Rows.{with_job}
use Rattle.pass_table.proofs.table.Table.set_job.Goals as goal

pub returns : goal.returns
returns c =
    one_changed nat_cmp_total nat_cmp-IsAntisymmetric c.self.inside.passes.entries c.set_job.new.passes.entries c.args.number (with_job c.args.job) c.set_job.ensures.0
    ∙ ap (λ (m : Table). changed (with_job c.args.job) c.args.number m) c.self.view_is

pub set_job-requires : goal.set_job-requires
set_job-requires c =
    subst IsSome (ap (λ (m : Table). map.get m c.args.number) (sym c.self.view_is) ∙ get_is nat_cmp_total c.self.inside.passes.entries c.args.number) c.requires
