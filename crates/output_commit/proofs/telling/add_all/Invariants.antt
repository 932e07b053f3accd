use Rattle.std.proofs.Common.{◌≡◌, ◌+◌, length}
use Rattle.output_commit.specs.Told.{with_problems}
use Rattle.output_commit.proofs.telling.add_all.Given as goal

abbrev pub invariant-loop-problem : goal.invariant-loop-problem
invariant-loop-problem l = record {
  marks : with_problems l.index l.id l.rest l.marks ≡ with_problems l.index l.initial.id l.initial.rest l.initial.marks;
  ids : l.id + length l.rest ≡ l.initial.id + length l.initial.rest;
}

abbrev pub decreases-loop-problem : goal.decreases-loop-problem
decreases-loop-problem l = length l.rest
