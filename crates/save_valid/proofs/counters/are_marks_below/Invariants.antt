use Rattle.std.proofs.Common.{◌↔◌, ◌<◌}
use Rattle.std.specs.List.{AllByRecursion}
use Rattle.std.specs.FinMap.{values}
use Rattle.save_valid.proofs.counters.are_marks_below.Given as goal

-- what is left decides
abbrev pub invariant-loop-of : goal.invariant-loop-of
invariant-loop-of l = AllByRecursion (λ m. m.id < l.marker) l.of-iterator ↔ AllByRecursion (λ m. m.id < l.marker) (values l.marks)
