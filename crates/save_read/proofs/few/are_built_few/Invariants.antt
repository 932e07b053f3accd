use Rattle.std.proofs.Common.{◌↔◌, map, drop}
use Rattle.std.specs.List.{AllByRecursion}
use Rattle.ws_durable.specs.Saved.{saved_built}
use Rattle.save_read.specs.Sayable.{IsFew}
use Rattle.save_read.proofs.few.are_built_few.Given as goal

-- what is left decides
abbrev pub invariant-loop-of : goal.invariant-loop-of
invariant-loop-of l = AllByRecursion (λ b. IsFew b.tree) (map saved_built (drop l.of-index l.built)) ↔ AllByRecursion (λ b. IsFew b.tree) (map saved_built l.built)
