use Rattle.std.proofs.Common.{◌≡◌, ◌++◌, map, take}
use Rattle.std.specs.List.{flat_map}
use Rattle.serde_json.specs.View.{view}
use Rattle.proj_desc.specs.declared.member.Level.TheVariants as level
use Rattle.proj_desc.specs.Causes.{others}
use Rattle.proj_desc.proofs.shape.strangers.Given as goal

-- the names of the commands so far
abbrev pub invariant-loop-command : goal.invariant-loop-command
invariant-loop-command l =
    l.names.items ≡ others level.Description (view l.value) ++ flat_map (others level.Command) (map view (take l.command-index l.command-items))
