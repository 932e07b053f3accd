use Rattle.std.proofs.Common.{◌≡◌, map, take}
use Rattle.std.specs.FinMap.{entries}
use Rattle.save_elem.specs.Telling.{told_sync}
use Rattle.save_elem.proofs.building.syncs_of.Given as goal

-- what was built tells the front
abbrev pub invariant-loop-first : goal.invariant-loop-first
invariant-loop-first l = map told_sync (entries l.syncs) ≡ take l.first-index l.told
