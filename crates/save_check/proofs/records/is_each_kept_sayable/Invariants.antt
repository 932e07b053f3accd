use Rattle.std.proofs.Common.{◌↔◌, None, length, map}
use Rattle.std.specs.Prelude.{IfSome}
use Rattle.std.specs.List.{AllByRecursion}
use Rattle.std.specs.Option.{option_copied, option_map}
use Rattle.ws_durable.specs.Saved.{saved_kept}
use Rattle.save_form.specs.Laws.{FitEach}
use Rattle.save_read.specs.Sayable.{IsSayableKept}
use Rattle.save_check.specs.Inside.Tellable.{AreInRange}
use Rattle.save_check.proofs.records.is_each_kept_sayable.Given as goal

-- those that are left decide, behind the one before them
abbrev pub invariant-loop-of : goal.invariant-loop-of
invariant-loop-of l = record {
  range : AllByRecursion (λ k. IfSome k.tree AreInRange) (map saved_kept l.rest);
  decides : FitEach IsSayableKept (option_map saved_kept (option_copied l.before)) (map saved_kept l.rest) ↔ FitEach IsSayableKept None (map saved_kept l.kept);
}

abbrev pub decreases-loop-of : goal.decreases-loop-of
decreases-loop-of l = length l.rest
