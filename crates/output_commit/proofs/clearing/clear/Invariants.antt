use Rattle.std.proofs.Common.{◌≡◌, ◌+◌, ◌++◌, length}
use Rattle.op_plan.specs.Inside.Lists.{taken}
use Rattle.output_commit.specs.Touched.{unwanted, count_files}
use Rattle.output_commit.proofs.clearing.clear.Given as goal

abbrev pub invariant-loop-entry : goal.invariant-loop-entry
invariant-loop-entry l = record {
  edits : l.edits ++ taken (unwanted l.wanted.map l.rest) ≡ l.initial.edits ++ taken (unwanted l.wanted.map l.initial.rest);
  lost : l.lost + count_files (unwanted l.wanted.map l.rest) ≡ count_files (unwanted l.wanted.map l.initial.rest);
}

abbrev pub decreases-loop-entry : goal.decreases-loop-entry
decreases-loop-entry l = length l.rest
