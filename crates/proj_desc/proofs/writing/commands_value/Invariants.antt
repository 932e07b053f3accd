use Rattle.std.proofs.Common.{◌≡◌, map, take}
use Rattle.serde_json.specs.View.{view}
use Rattle.proj_desc.specs.Canonical.{command_data}
use Rattle.proj_desc.proofs.writing.commands_value.Given as goal

-- the values so far
abbrev pub invariant-loop-command : goal.invariant-loop-command
invariant-loop-command l = map view l.values.items ≡ map command_data (take l.command-index l.commands)
