use Rattle.std.specs.Cmp.{nat_cmp_total}
use Rattle.std.specs.FinMap.{nat_cmp-IsAntisymmetric}
use Rattle.std.proofs.Common.{rules}
use Rattle.mark_set.proofs.Maps.{entries_is}
use Rattle.mark_set.proofs.walks.collect_deltas.Goals as goal

pub returns : goal.returns
returns c = rw (entries_is nat_cmp_total nat_cmp-IsAntisymmetric c.args.found.entries c.len-count.ensures.ordered) (search rules)
