use Rattle.std.proofs.Common.{map, take}
use Rattle.ws_durable.specs.Saved.{saved_built}
use Rattle.save_build.specs.Told.{AllTold, IsBuiltOf}
use Rattle.save_build.proofs.records.builds_of.Given as goal

-- the records that were told so far
abbrev pub invariant-loop-first : goal.invariant-loop-first
invariant-loop-first l = AllTold (IsBuiltOf l.tree.map) (map saved_built l.records.items) (take l.first-index l.told)
