use Rattle.std.proofs.Common.{sym, ap, ◌∙◌}
use Rattle.std.specs.FinMap as map
use Rattle.job_queue.specs.Inside.Kept.{Turns}
use Rattle.job_queue.specs.Turns.{turn_cmp_total, turn_cmp_exact}
use Rattle.job_queue.proofs.Tables.{entries_is}
use Rattle.job_queue.proofs.turns.Turns.iter.Goals as goal

pub returns : goal.returns
returns c = c.iter.ensures.rest ∙ sym (entries_is turn_cmp_total turn_cmp_exact c.self.inside.names.entries c.iter.ensures.ordered) ∙ ap (λ (m : Turns). map.entries m) c.self.view_is
