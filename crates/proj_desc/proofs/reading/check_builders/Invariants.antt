use Rattle.std.proofs.Common.{◌≡◌, true, map, take}
use Rattle.std.specs.List.{list_all}
use Rattle.serde_json.specs.View.{view}
use Rattle.res_path.specs.Names.{is_name}
use Rattle.proj_desc.specs.Described.{command_of}
use Rattle.proj_desc.proofs.reading.check_builders.Given as goal

-- those so far
abbrev pub invariant-loop-command : goal.invariant-loop-command
invariant-loop-command l = list_all (λ d. is_name d.builder) (map command_of (map view (take l.command-index l.commands))) ≡ true
