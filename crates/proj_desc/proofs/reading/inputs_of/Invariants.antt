use Rattle.std.proofs.Common.{◌≡◌, true, map, take}
use Rattle.std.specs.List.{list_all}
use Rattle.serde_json.specs.View.{view}
use Rattle.proj_desc.specs.Values.{text}
use Rattle.proj_desc.specs.Described.{input_of}
use Rattle.proj_desc.specs.Causes.{is_placed}
use Rattle.proj_desc.proofs.reading.inputs_of.Given as goal

-- those so far
abbrev pub invariant-loop-value : goal.invariant-loop-value
invariant-loop-value l = record {
  items : l.inputs.items ≡ map (λ v. input_of (text v)) (map view (take l.value-index l.values));
  good : list_all (is_placed l.project) (map (λ v. input_of (text v)) (map view (take l.value-index l.values))) ≡ true;
}
