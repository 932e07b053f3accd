use Rattle.std.proofs.Common.{sym, ◌∙◌, ap}
use Rattle.std.specs.Cmp.{nat_cmp_total}
use Rattle.std.specs.FinMap.{values, nat_cmp-IsAntisymmetric}
use Rattle.std.specs.Map.{values_of}
use Rattle.mark_set.proofs.Maps.{entries-empty}
use Rattle.mark_set.proofs.marks.MarkSet.iter.Goals as goal
use Rattle.mark_set.proofs.marks.MarkSet.iter.Goals.{in-None, in-Some}

pub returns : goal.returns
returns c = elim c.match-self.branch [
  | in-None w ↦ rw (w.result-is, ← c.self.view_is, w.in-None.is) (ap (λ l. values_of l) (sym (entries-empty nat_cmp_total nat_cmp-IsAntisymmetric)))
  | in-Some w ↦ rw (w.result-is, ← c.self.view_is, w.in-Some.is) (w.walk.ensures ∙ ap values w.deref.ensures)
]
