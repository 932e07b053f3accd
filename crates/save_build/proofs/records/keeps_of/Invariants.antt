use Rattle.std.proofs.Common.{map, take}
use Rattle.ws_durable.specs.Saved.{saved_kept}
use Rattle.save_build.specs.Told.{AllTold, IsKeptOf}
use Rattle.save_build.proofs.records.keeps_of.Given as goal

-- the states that were told so far
abbrev pub invariant-loop-first : goal.invariant-loop-first
invariant-loop-first l = AllTold (IsKeptOf l.tree.map) (map saved_kept l.states.items) (take l.first-index l.told)
