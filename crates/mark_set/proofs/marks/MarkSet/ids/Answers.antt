use Rattle.std.proofs.Common.{ap, sym, ◌∙◌}
use Rattle.std.specs.Cmp.{nat_cmp_total}
use Rattle.std.specs.FinMap.{nat_cmp-IsAntisymmetric}
use Rattle.std.specs.Map.{keys_of}
use Rattle.mark_set.proofs.Maps.{entries-empty}
use Rattle.mark_set.proofs.marks.MarkSet.ids.Goals as goal

pub returns-in-None : goal.returns-in-None
returns-in-None c = rw (← c.self.view_is, c.in-None.is) (c.new.ensures.items ∙ ap (λ l. keys_of l) (sym (entries-empty nat_cmp_total nat_cmp-IsAntisymmetric)))
