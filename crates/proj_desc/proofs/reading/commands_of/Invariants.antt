use Rattle.std.proofs.Common.{◌≡◌, true, map, take}
use Rattle.std.specs.List.{list_all}
use Rattle.serde_json.specs.View.{view}
use Rattle.proj_desc.specs.Described.{command_of}
use Rattle.proj_desc.specs.Causes.{has_places}
use Rattle.proj_desc.proofs.reading.commands_of.Given as goal

-- those so far
abbrev pub invariant-loop-value : goal.invariant-loop-value
invariant-loop-value l = record {
  items : l.commands.items ≡ map command_of (map view (take l.value-index l.values));
  good : list_all (has_places l.project) (map command_of (map view (take l.value-index l.values))) ≡ true;
}
