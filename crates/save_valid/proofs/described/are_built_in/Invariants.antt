use Rattle.std.proofs.Common.{◌↔◌, map, drop}
use Rattle.std.specs.List.{AllByRecursion}
use Rattle.ws_durable.specs.Saved.{saved_built}
use Rattle.save_valid.specs.Descriptions.{IsBuiltIn}
use Rattle.save_valid.proofs.described.are_built_in.Given as goal

-- what is left decides
abbrev pub invariant-loop-of : goal.invariant-loop-of
invariant-loop-of l = AllByRecursion (IsBuiltIn l.tree.map) (map saved_built (drop l.of-index l.built)) ↔ AllByRecursion (IsBuiltIn l.tree.map) (map saved_built l.built)
