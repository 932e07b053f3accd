use Rattle.std.proofs.Common.{[], sym, subst}
use Rattle.std.specs.List.Sorted.{IsStrictlySortedBy}
use Rattle.std.specs.Map.{keys_of}
use Rattle.std.specs.Prelude.{None}
use Rattle.res_path.specs.Paths.{path_cmp}
use Rattle.delta_kind.proofs.Rising.{rises_sorted}
use Rattle.builder_api.proofs.view.View.empty.Goals as goal

pub invariant_of-result : goal.invariant_of-result
invariant_of-result c = subst (λ es. IsStrictlySortedBy path_cmp (keys_of es)) (sym c.new.ensures.items) (rises_sorted None [] tt)
