use Rattle.std.proofs.Common.{◌≡◌, map, take}
use Rattle.std.specs.FinMap.{values}
use Rattle.save_elem.specs.Telling.{told_mark}
use Rattle.save_elem.specs.Sound.{AreSaved}
use Rattle.save_elem.proofs.building.marks_of.Given as goal

-- what was built tells the front
abbrev pub invariant-loop-first : goal.invariant-loop-first
invariant-loop-first l = (map told_mark (values l.marks) ≡ take l.first-index l.told) × AreSaved l.marks
