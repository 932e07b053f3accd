use Rattle.std.proofs.Common.{◌≡◌, ◌++◌, take}
use Rattle.std.specs.List.{flat_map}
use Rattle.report_text.specs.Deltas.{marker_line}
use Rattle.report_text.proofs.delta_text.put_markers.Given as goal

-- the lines of the marker deltas so far
abbrev pub invariant-loop-delta : goal.invariant-loop-delta
invariant-loop-delta l = l.out.items ≡ l.fn.out.items ++ flat_map marker_line (take l.delta-index l.deltas)
