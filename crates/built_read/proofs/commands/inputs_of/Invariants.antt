use Rattle.std.proofs.Common.{◌≡◌, map, take}
use Rattle.serde_json.specs.View.{view}
use Rattle.proj_desc.specs.Values.{text}
use Rattle.proj_desc.specs.Described.{input_of}
use Rattle.built_read.proofs.commands.inputs_of.Given as goal

-- those so far
abbrev pub invariant-loop-value : goal.invariant-loop-value
invariant-loop-value l = l.inputs.items ≡ map (λ v. input_of (text v)) (map view (take l.value-index l.values))
