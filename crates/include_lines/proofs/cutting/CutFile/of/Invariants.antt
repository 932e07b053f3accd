use Rattle.std.proofs.Common.{◌≡◌, ◌++◌, ◌≤◌, length, take, drop}
use Rattle.std.specs.List.{flat_map}
use Rattle.include_lines.specs.Expanding.{Files, expanded, missing}
use Rattle.include_lines.specs.Cutting.{part_bytes, part_missing}
use Rattle.include_lines.proofs.cutting.CutFile.of.Given as goal

-- the parts so far, the plain lines that are in no part yet, and what is still to be passed
abbrev pub invariant-loop-plain : goal.invariant-loop-plain
invariant-loop-plain l =
    ((files : Files) → flat_map (part_bytes files) l.parts.items ++ take l.plain l.left ++ expanded files (drop l.plain l.left) ≡ expanded files l.bytes)
    × ((files : Files) → flat_map (part_missing files) l.parts.items ++ missing files l.number (drop l.plain l.left) ≡ missing files l.fn.first l.bytes)
    × (l.plain ≤ length l.left)

abbrev pub decreases-loop-plain : goal.decreases-loop-plain
decreases-loop-plain l = length (drop l.plain l.left)
