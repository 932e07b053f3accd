use Rattle.std.proofs.Common.{sym, nat_cmp}
use Rattle.std.specs.FinMap.{len-empty}
use Rattle.mark_set.specs.declared.marker.Marker.{Marker}
use Rattle.mark_set.proofs.marks.MarkSet.len.Goals as goal

pub returns-in-None : goal.returns-in-None
returns-in-None c = rw (← c.self.view_is, c.in-None.is) (sym (len-empty nat_cmp Marker))
