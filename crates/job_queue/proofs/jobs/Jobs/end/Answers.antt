use Rattle.std.proofs.Common.{sym, ap, ◌∙◌, subst}
use Rattle.std.specs.FinMap as map
use Rattle.std.specs.Prelude.{IsSome}
use Rattle.job_queue.specs.Changed.{changed}
use Rattle.job_queue.specs.Queues.{Jobs, over}
use Rattle.job_queue.proofs.Named.{name_cmp_total, name_cmp_exact}
use Rattle.job_queue.proofs.Tables.{get_is, one_changed}
use Rattle.job_queue.proofs.jobs.Jobs.end.Goals as goal

pub returns : goal.returns
returns g c =
    one_changed name_cmp_total name_cmp_exact c.self.inside.jobs.entries c.end.new.jobs.entries c.args.name.now over c.end.ensures.0
    ∙ ap (λ (m : Jobs g.row.A.Denot). changed over c.args.name.now m) c.self.view_is

pub end-requires : goal.end-requires
end-requires g c =
    subst IsSome (ap (λ (m : Jobs g.row.A.Denot). map.get m c.args.name.now) (sym c.self.view_is) ∙ get_is name_cmp_total c.self.inside.jobs.entries c.args.name.now) c.requires
