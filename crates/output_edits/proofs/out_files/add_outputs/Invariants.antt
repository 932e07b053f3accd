use Rattle.std.proofs.Common.{◌≡◌, true, [], length}
use Rattle.std.specs.Prelude.{filter}
use Rattle.std.specs.List.{AllByRecursion}
use Rattle.res_path.specs.Paths.{is_prefix}
use Rattle.ws_elem.specs.Kinds.{is_file}
use Rattle.op_kind.specs.Members.{put_all, carried}
use Rattle.output_edits.proofs.out_files.add_outputs.Given as goal

abbrev pub invariant-loop-entry : goal.invariant-loop-entry
invariant-loop-entry l = record {
  files : put_all l.files.map (carried l.output [] (filter (λ e. is_file e.1.kind) l.rest)) ≡ put_all l.initial.files.map (carried l.output [] (filter (λ e. is_file e.1.kind) l.initial.rest));
  below : AllByRecursion (λ e. is_prefix l.output e.0 ≡ true) l.rest;
}

abbrev pub decreases-loop-entry : goal.decreases-loop-entry
decreases-loop-entry l = length l.rest
