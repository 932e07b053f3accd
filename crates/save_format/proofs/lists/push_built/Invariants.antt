use Rattle.std.proofs.Common.{◌≡◌, ◌++◌, map, drop}
use Rattle.ws_durable.specs.Saved.{saved_built, built_trees}
use Rattle.save_valid.specs.Rules.{maps_at}
use Rattle.save_format.proofs.lists.push_built.Given as goal

-- what is left completes the list
abbrev pub invariant-loop-of : goal.invariant-loop-of
invariant-loop-of l = maps_at l.trees.items ++ built_trees (map saved_built (drop l.of-index l.built)) ≡ maps_at l.initial.trees.items ++ built_trees (map saved_built l.built)
