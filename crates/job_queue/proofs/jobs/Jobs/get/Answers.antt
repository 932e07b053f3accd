use Rattle.std.proofs.Common.{sym, ap, ◌∙◌}
use Rattle.std.specs.FinMap as map
use Rattle.job_queue.specs.Queues.{Jobs}
use Rattle.job_queue.proofs.Named.{name_cmp_total}
use Rattle.job_queue.proofs.Tables.{get_is}
use Rattle.job_queue.proofs.jobs.Jobs.get.Goals as goal

pub returns : goal.returns
returns g c = c.get.ensures.value ∙ sym (get_is name_cmp_total c.self.inside.jobs.entries c.args.name.now) ∙ ap (λ (m : Jobs g.row.A.Denot). map.get m c.args.name.now) c.self.view_is
