use Rattle.std.proofs.Common.{◌≡◌, length}
use Rattle.std.specs.FinMap.{contains_key}
use Rattle.builder_api.specs.Edits.{edit_paths}
use Rattle.output_edits.specs.Bad.{least_of, repeated}
use Rattle.output_edits.proofs.bad.find_repeated.Given as goal

abbrev pub invariant-loop-change : goal.invariant-loop-change
invariant-loop-change l = least_of l.found (repeated (contains_key l.seen.map) (edit_paths l.rest)) ≡ least_of l.initial.found (repeated (contains_key l.initial.seen.map) (edit_paths l.initial.rest))

abbrev pub decreases-loop-change : goal.decreases-loop-change
decreases-loop-change l = length l.rest
