use Rattle.std.proofs.Common.{◌≡◌, ◌++◌, map, drop}
use Rattle.ws_durable.specs.Saved.{saved_kept, kept_trees}
use Rattle.save_valid.specs.Rules.{maps_at}
use Rattle.save_format.proofs.lists.push_kept.Given as goal

-- what is left completes the list
abbrev pub invariant-loop-of : goal.invariant-loop-of
invariant-loop-of l = maps_at l.trees.items ++ kept_trees (map saved_kept (drop l.of-index l.kept)) ≡ maps_at l.initial.trees.items ++ kept_trees (map saved_kept l.kept)
