use Rattle.std.specs.Map.{lookup}
use Rattle.std.specs.BTreeMap.{is_at}
use Rattle.std.specs.Cmp.Lexicographic.{slice_cmp}
use Rattle.std.specs.Ordering.{nat_cmp}
use Rattle.include_lines.specs.Cutting.{AreParts}
use Rattle.std_expand.proofs.KeptFiles.{one_found, of_loan}
use Rattle.std_expand.proofs.kept.Kept.get.Goals as goal

pub returns : goal.returns
returns c =
    of_loan (AreParts 1 c.args.bytes.now) c.get.result (lookup (is_at (slice_cmp nat_cmp c.args.bytes.now)) c.self.inside.files.entries) c.get.ensures.value
    (one_found (AreParts 1) c.self.inside.files.entries c.args.bytes.now c.self.invariant)
