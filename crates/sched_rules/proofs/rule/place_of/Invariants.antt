use Rattle.std.proofs.Common.{◌≡◌, ◌≤◌, length, drop}
use Rattle.std.specs.declared.cmp.Ordering.TheVariants.{Less}
use Rattle.std.specs.List.{AllByRecursion}
use Rattle.sched_rules.proofs.rule.place_of.Given as goal

abbrev pub invariant-loop-at : goal.invariant-loop-at
invariant-loop-at g l = record {
  within : l.at ≤ length l.atoms;
  above : AllByRecursion (λ other. g.A.Ord.cmp l.atom other ≡ Less) (drop l.at l.atoms);
}

abbrev pub decreases-loop-at : goal.decreases-loop-at
decreases-loop-at g l = l.at
