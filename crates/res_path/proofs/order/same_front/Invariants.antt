use Rattle.std.proofs.Common.{◌≡◌, ◌⊎◌, ◌+◌, ◌-◌, ◌≤◌, length, take}
use Rattle.res_path.proofs.order.same_front.Given as goal

-- what was passed is the same
abbrev pub invariant-loop-last : goal.invariant-loop-last
invariant-loop-last l = record {
  same : take l.at l.a ≡ take l.at l.b;
  within : l.at ≤ l.last;
  first : l.last + 8 ≤ length l.a;
  second : l.last + 8 ≤ length l.b;
  shorter : (length l.a ≤ l.last + 8) ⊎ (length l.b ≤ l.last + 8);
}

abbrev pub decreases-loop-last : goal.decreases-loop-last
decreases-loop-last l = l.last - l.at
