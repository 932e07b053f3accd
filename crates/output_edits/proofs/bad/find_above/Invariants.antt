use Rattle.std.proofs.Common.{◌≡◌, map}
use Rattle.std.specs.Prelude.{filter}
use Rattle.std.specs.List.{list_any}
use Rattle.std.specs.FinMap.{keys}
use Rattle.op_kind.specs.Members.{is_below}
use Rattle.output_edits.specs.Bad.{least_of, above_another}
use Rattle.output_edits.proofs.bad.find_above.Given as goal

abbrev pub invariant-loop-path : goal.invariant-loop-path
invariant-loop-path l = least_of l.found (filter (λ p. list_any (is_below p) (keys l.files.map)) (map (λ e. e.0) l.path-iterator)) ≡ least_of l.initial.found (above_another l.files.map)
