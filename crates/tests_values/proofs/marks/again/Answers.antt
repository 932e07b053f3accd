use Rattle.std.specs.FinMap.{entries_sorted}
use Rattle.tests_values.proofs.marks.again.Goals as goal

pub of-requires : goal.of-requires
of-requires c = rw c.into_vec.ensures (entries_sorted c.args.attrs)
