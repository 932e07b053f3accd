use Rattle.std.proofs.Common.{◌≡◌, map, take}
use Rattle.std.specs.List.{AllByRecursion}
use Rattle.save_elem.specs.Telling.{told_attr}
use Rattle.save_elem.specs.Sound.{IsAttr}
use Rattle.save_elem.proofs.building.attrs_of.Given as goal

-- what was built tells the front
abbrev pub invariant-loop-first : goal.invariant-loop-first
invariant-loop-first l = (map told_attr l.values.items ≡ take l.first-index l.told) × AllByRecursion IsAttr l.values.items
