use Rattle.std.proofs.Common.{◌↔◌, None, length, map}
use Rattle.std.specs.List.{AllByRecursion}
use Rattle.std.specs.Option.{option_copied, option_map}
use Rattle.ws_durable.specs.Saved.{saved_built}
use Rattle.save_form.specs.Laws.{FitEach}
use Rattle.save_read.specs.Sayable.{IsSayableBuilt}
use Rattle.save_check.specs.Inside.Tellable.{AreInRange}
use Rattle.save_check.proofs.records.is_each_built_sayable.Given as goal

-- those that are left decide, behind the one before them
abbrev pub invariant-loop-of : goal.invariant-loop-of
invariant-loop-of l = record {
  range : AllByRecursion (λ b. AreInRange b.tree) (map saved_built l.rest);
  decides : FitEach IsSayableBuilt (option_map saved_built (option_copied l.before)) (map saved_built l.rest) ↔ FitEach IsSayableBuilt None (map saved_built l.built);
}

abbrev pub decreases-loop-of : goal.decreases-loop-of
decreases-loop-of l = length l.rest
