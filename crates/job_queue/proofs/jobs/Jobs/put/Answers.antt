use Rattle.std.proofs.Common.{ap, ◌∙◌}
use Rattle.std.specs.FinMap as map
use Rattle.job_queue.specs.Queues.{Jobs}
use Rattle.job_queue.proofs.Named.{name_cmp_total, name_cmp_exact}
use Rattle.job_queue.proofs.Tables.{one_put}
use Rattle.job_queue.proofs.jobs.Jobs.put.Goals as goal

pub returns-clause-ok : goal.returns-clause-ok
returns-clause-ok g c =
    one_put name_cmp_total name_cmp_exact c.self.inside.jobs.entries c.insert.new.self.entries c.args.name c.args.job c.in_ok-insert.ensures.updates.0
    ∙ ap (λ (m : Jobs g.row.A.Denot). map.insert m c.args.name c.args.job) c.self.view_is
