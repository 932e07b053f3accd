use Rattle.std.proofs.Common.{[], sym, subst}
use Rattle.delta_kind.specs.Deltas.{InPathOrder, paths_of}
use Rattle.delta_kind.proofs.Rising.{rises_sorted}
use Rattle.std.specs.Prelude.{None}
use Rattle.delta_kind.proofs.delta.Delta.empty.Goals as goal

pub invariant_of-result : goal.invariant_of-result
invariant_of-result c = subst (λ nodes. InPathOrder (paths_of nodes)) (sym c.new.ensures.items) (rises_sorted None [] tt)
