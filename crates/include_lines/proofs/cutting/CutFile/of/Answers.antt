use Rattle.std.proofs.Common.{◌+◌, ◌++◌, ◌≤◌, length, drop, ap, ◌∙◌, arith}
use Rattle.std.specs.List.{flat_map}
use Rattle.include_lines.specs.Cutting.{part_bytes, part_missing}
use Rattle.include_lines.specs.Lines.{lines_of}
use Rattle.include_lines.proofs.Numbers.{same_numbers}
use Rattle.include_lines.proofs.Passing.{ended_whole, ended_told}
use Rattle.include_lines.proofs.cutting.CutFile.of.Goals as goal

pub loop-plain-preserved : goal.loop-plain-preserved
loop-plain-preserved c = (
  (λ files. c.in_ok-plain.ensures.whole files ∙ c.loop-plain.invariant.0 files),
  (λ files.
      ap (λ xs. flat_map (part_missing files) c.pass_line.new.parts.items ++ xs)
      (same_numbers files c.saturating_add-number.result (c.loop-plain.number + 1) (lines_of (drop c.in_ok-plain.plain c.pass_line.new.left)) (omega (arith, c.saturating_add-number.ensures)))
      ∙ c.in_ok-plain.ensures.told files ∙ c.loop-plain.invariant.1 files),
  c.in_ok-plain.ensures.bound,
)

pub returns : goal.returns
returns c =
    let done : length c.loop-plain.left ≤ c.loop-plain.plain = omega (arith, c.loop-plain-test.false, c.len.ensures.value) in record {
      whole = λ files.
          ended_whole (flat_map (part_bytes files) c.loop-plain.parts.items) (flat_map (part_bytes files) c.push_text.new.parts.items) c.loop-plain.left c.args.bytes.now c.loop-plain.plain files done (c.in_ok-push_text.ensures.whole files)
          (c.loop-plain.invariant.0 files);
      told = λ files.
          ended_told (flat_map (part_missing files) c.loop-plain.parts.items) (flat_map (part_missing files) c.push_text.new.parts.items) c.loop-plain.left c.args.bytes.now c.loop-plain.plain c.loop-plain.number c.args.first files done (c.in_ok-push_text.ensures.told files)
          (c.loop-plain.invariant.1 files);
    }
