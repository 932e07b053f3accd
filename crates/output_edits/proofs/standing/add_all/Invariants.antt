use Rattle.std.proofs.Common.{◌≡◌, ◌++◌}
use Rattle.std.specs.List.{flat_map}
use Rattle.std.specs.FinMap.{entries}
use Rattle.op_kind.specs.Members.{put_all}
use Rattle.output_edits.specs.Wanted.{standing}
use Rattle.output_edits.proofs.standing.add_all.Given as goal

abbrev pub invariant-loop-path : goal.invariant-loop-path
invariant-loop-path l = put_all l.all.map (flat_map (λ e. standing (l.output ++ e.0) e.1) l.path-iterator) ≡ put_all l.initial.all.map (flat_map (λ e. standing (l.output ++ e.0) e.1) (entries l.files.map))
