use Rattle.std.proofs.Common.{◌≡◌, map, take}
use Rattle.serde_json.specs.Data.{string}
use Rattle.serde_json.specs.View.{view}
use Rattle.proj_desc.specs.Canonical.{input_text}
use Rattle.proj_desc.proofs.writing.inputs_value.Given as goal

-- the values so far
abbrev pub invariant-loop-input : goal.invariant-loop-input
invariant-loop-input l = map view l.values.items ≡ map string (map input_text (take l.input-index l.inputs))
