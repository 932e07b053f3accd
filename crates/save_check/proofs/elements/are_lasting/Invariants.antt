use Rattle.std.proofs.Common.{◌≡◌, ◌↔◌, false}
use Rattle.std.specs.List.{AllByRecursion}
use Rattle.std.specs.FinMap.{values}
use Rattle.mark_set.specs.Markers.{is_transient}
use Rattle.save_check.proofs.elements.are_lasting.Given as goal

-- what is left decides
abbrev pub invariant-loop-of : goal.invariant-loop-of
invariant-loop-of l = AllByRecursion (λ m. is_transient m ≡ false) l.of-iterator ↔ AllByRecursion (λ m. is_transient m ≡ false) (values l.marks)
