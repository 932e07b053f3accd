use Rattle.std.proofs.Common.{sym, nat_cmp}
use Rattle.std.specs.Cmp.{nat_cmp_total}
use Rattle.std.specs.FinMap.{get-empty, nat_cmp-IsAntisymmetric}
use Rattle.mark_set.specs.Markers.{IsMarker}
use Rattle.mark_set.proofs.Maps.{all_none}
use Rattle.mark_set.proofs.marks.MarkSet.get.Goals as goal

pub returns-in-None-clause-value : goal.returns-in-None-clause-value
returns-in-None-clause-value c = rw (← c.self.view_is, c.in-None.is) (sym (get-empty nat_cmp c.args.id))

pub returns-in-None-clause-form : goal.returns-in-None-clause-form
returns-in-None-clause-form c = rw (← c.self.view_is, c.in-None.is) (all_none nat_cmp_total nat_cmp-IsAntisymmetric IsMarker)
