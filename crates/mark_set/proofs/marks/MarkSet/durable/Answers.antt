use Rattle.std.proofs.Common.{sym, ◌∙◌}
use Rattle.mark_set.proofs.Durables.{durable-empty}
use Rattle.mark_set.proofs.marks.MarkSet.durable.Goals as goal

pub returns-in-None : goal.returns-in-None
returns-in-None c = rw (← c.self.view_is, c.in-None.is) (c.empty.ensures ∙ sym durable-empty)
