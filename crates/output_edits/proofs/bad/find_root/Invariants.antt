use Rattle.std.proofs.Common.{◌≡◌, length}
use Rattle.std.specs.Prelude.{filter}
use Rattle.op_kind.specs.Places.{is_root_path}
use Rattle.builder_api.specs.Edits.{edit_paths}
use Rattle.output_edits.specs.Bad.{least_of}
use Rattle.output_edits.proofs.bad.find_root.Given as goal

abbrev pub invariant-loop-change : goal.invariant-loop-change
invariant-loop-change l = least_of l.found (filter is_root_path (edit_paths l.rest)) ≡ least_of l.initial.found (filter is_root_path (edit_paths l.initial.rest))

abbrev pub decreases-loop-change : goal.decreases-loop-change
decreases-loop-change l = length l.rest
