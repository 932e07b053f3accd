use Rattle.std.proofs.Common.{◌↔◌, map, drop}
use Rattle.std.specs.Prelude.{IfSome}
use Rattle.std.specs.List.{AllByRecursion}
use Rattle.ws_durable.specs.Saved.{saved_kept}
use Rattle.save_read.specs.Sayable.{IsFew}
use Rattle.save_read.proofs.few.are_kept_few.Given as goal

-- what is left decides
abbrev pub invariant-loop-of : goal.invariant-loop-of
invariant-loop-of l = AllByRecursion (λ k. IfSome k.tree IsFew) (map saved_kept (drop l.of-index l.kept)) ↔ AllByRecursion (λ k. IfSome k.tree IsFew) (map saved_kept l.kept)
