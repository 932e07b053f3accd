use Rattle.std.proofs.Common.{ap, ◌∙◌}
use Rattle.std.specs.FinMap as map
use Rattle.job_queue.specs.Inside.Kept.{Turns}
use Rattle.job_queue.specs.Turns.{turn_cmp_total, turn_cmp_exact}
use Rattle.job_queue.proofs.Tables.{one_put}
use Rattle.job_queue.proofs.turns.Turns.add.Goals as goal

pub returns-clause-ok : goal.returns-clause-ok
returns-clause-ok c =
    one_put turn_cmp_total turn_cmp_exact c.self.inside.names.entries c.insert.new.self.entries c.args.turn c.args.name c.in_ok-insert.ensures.updates.0
    ∙ ap (λ (m : Turns). map.insert m c.args.turn c.args.name) c.self.view_is
