use Rattle.std.proofs.Common.{◌≡◌, ◌≤◌, true, drop, length}
use Rattle.res_path.specs.Parts.{has_no_slash}
use Rattle.res_path.proofs.parts.last_slash.Given as goal

abbrev pub invariant-loop-at : goal.invariant-loop-at
invariant-loop-at l = record {
  none_after : has_no_slash (drop l.at l.bytes) ≡ true;
  within : l.at ≤ length l.bytes;
}

abbrev pub decreases-loop-at : goal.decreases-loop-at
decreases-loop-at l = l.at
