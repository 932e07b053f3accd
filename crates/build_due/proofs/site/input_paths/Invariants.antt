use Rattle.std.proofs.Common.{◌≡◌, map, take}
use Rattle.builder_api.specs.Tasks.{input_path}
use Rattle.build_due.proofs.site.input_paths.Given as goal

-- those so far
abbrev pub invariant-loop-input : goal.invariant-loop-input
invariant-loop-input l = l.paths.items ≡ map (input_path l.project) (take l.input-index l.inputs)
