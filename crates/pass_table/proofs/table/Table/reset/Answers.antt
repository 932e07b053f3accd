use Rattle.std.proofs.Common.{sym, ap, ◌∙◌, subst}
use Rattle.std.specs.FinMap as map
use Rattle.std.specs.FinMap.{nat_cmp-IsAntisymmetric}
use Rattle.std.specs.Prelude.{IsSome}
use Rattle.std.proofs.lemmas.Cmp.{nat_cmp_total}
use Rattle.job_queue.proofs.Tables.{get_is, one_changed}
use Rattle.pass_table.specs.Passes.{Table, idle}
use Rattle.job_queue.specs.Changed.{changed}
use Rattle.pass_table.proofs.table.Table.reset.Goals as goal

pub returns-clause-reset : goal.returns-clause-reset
returns-clause-reset c =
    one_changed nat_cmp_total nat_cmp-IsAntisymmetric c.self.inside.passes.entries c.reset.new.passes.entries c.args.number (λ _. idle) c.reset.ensures.reset.0
    ∙ ap (λ (m : Table). changed (λ _. idle) c.args.number m) c.self.view_is

pub reset-requires : goal.reset-requires
reset-requires c =
    subst IsSome (ap (λ (m : Table). map.get m c.args.number) (sym c.self.view_is) ∙ get_is nat_cmp_total c.self.inside.passes.entries c.args.number) c.requires

pub returns-clause-was : goal.returns-clause-was
returns-clause-was c = ap (λ (m : Table). map.get m c.args.number) (sym c.self.view_is) ∙ get_is nat_cmp_total c.self.inside.passes.entries c.args.number ∙ c.reset.ensures.was
