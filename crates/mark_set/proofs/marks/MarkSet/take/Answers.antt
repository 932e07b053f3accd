use Rattle.std.proofs.Common.{sym}
use Rattle.std.specs.Cmp.{nat_cmp_total}
use Rattle.std.specs.FinMap.{nat_cmp-IsAntisymmetric}
use Rattle.mark_set.proofs.Maps.{remove-empty}
use Rattle.mark_set.proofs.marks.MarkSet.take.Goals as goal

pub returns-in-None : goal.returns-in-None
returns-in-None c = rw (c.take.ensures.after, ← c.self.view_is, ← c.take.ensures.value, c.in-None.is) (sym (remove-empty nat_cmp_total nat_cmp-IsAntisymmetric c.args.id))
