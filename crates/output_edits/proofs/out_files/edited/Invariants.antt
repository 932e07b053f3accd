use Rattle.std.proofs.Common.{◌≡◌, length}
use Rattle.output_edits.specs.Outputs.{edited}
use Rattle.output_edits.proofs.out_files.edited.Given as goal

abbrev pub invariant-loop-change : goal.invariant-loop-change
invariant-loop-change l = edited l.files.map l.rest ≡ edited l.initial.files.map l.initial.rest

abbrev pub decreases-loop-change : goal.decreases-loop-change
decreases-loop-change l = length l.rest
