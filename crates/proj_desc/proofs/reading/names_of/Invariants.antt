use Rattle.std.proofs.Common.{◌≡◌, true, map, take}
use Rattle.std.specs.List.{list_all}
use Rattle.serde_json.specs.View.{view}
use Rattle.res_path.specs.Names.{is_name}
use Rattle.proj_desc.specs.Values.{text}
use Rattle.proj_desc.proofs.reading.names_of.Given as goal

-- those so far
abbrev pub invariant-loop-value : goal.invariant-loop-value
invariant-loop-value l = record {
  items : l.names.items ≡ map text (map view (take l.value-index l.values));
  good : list_all is_name (map text (map view (take l.value-index l.values))) ≡ true;
}
