use Rattle.std.proofs.Common.{◌≡◌, length, ◌+◌, ◌<◌, ◌^◌}
use Rattle.std.specs.List.{slice_split}
use Rattle.res_path.specs.Parts.{is_slash, first_bad}
use Rattle.res_path.proofs.parts.first_bad.Given as goal

abbrev pub invariant-loop-part : goal.invariant-loop-part
invariant-loop-part l = record {
  left : first_bad l.begins (slice_split is_slash l.rest) ≡ first_bad l.fn.at (slice_split is_slash l.fn.bytes);
  room : l.begins + length l.rest < 2 ^ 63;
}

abbrev pub decreases-loop-part : goal.decreases-loop-part
decreases-loop-part l = length l.rest
