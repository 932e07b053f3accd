use Rattle.std.proofs.Common.{◌≡◌, take}
use Rattle.std.specs.List.{flat_map}
use Rattle.include_lines.specs.Cutting.{part_bytes, part_missing}
use Rattle.include_lines.proofs.expanding.put_parts.Given as goal

-- what the parts so far come to
abbrev pub invariant-loop-part : goal.invariant-loop-part
invariant-loop-part g l =
    (l.made.bytes.items ≡ flat_map (part_bytes (g.F.Included.files l.files)) (take l.part-index l.parts))
    × (l.made.missing.items ≡ flat_map (part_missing (g.F.Included.files l.files)) (take l.part-index l.parts))
