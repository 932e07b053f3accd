use Rattle.std.proofs.Common.{ap, ◌∙◌}
use Rattle.std.specs.FinMap as map
use Rattle.job_queue.specs.Inside.Kept.{Turns}
use Rattle.job_queue.specs.Turns.{turn_cmp_total, turn_cmp_exact}
use Rattle.job_queue.proofs.Tables.{one_taken}
use Rattle.job_queue.proofs.turns.Turns.remove.Goals as goal

pub returns : goal.returns
returns c =
    one_taken turn_cmp_total turn_cmp_exact c.self.inside.names.entries c.remove.new.self.entries c.args.turn.now c.remove.ensures.updates.0
    ∙ ap (λ (m : Turns). map.remove m c.args.turn.now) c.self.view_is
