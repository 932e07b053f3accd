use Rattle.std.proofs.Common.{◌↔◌, ◌<◌}
use Rattle.std.specs.List.{AllByRecursion}
use Rattle.std.specs.FinMap.{entries}
use Rattle.save_valid.proofs.counters.are_syncs_below.Given as goal

-- what is left decides
abbrev pub invariant-loop-partner : goal.invariant-loop-partner
invariant-loop-partner l = AllByRecursion (λ s. s.0 < l.partners) l.partner-iterator ↔ AllByRecursion (λ s. s.0 < l.partners) (entries l.syncs)
