use Rattle.std.proofs.Common.{◌↔◌, map, drop}
use Rattle.std.specs.List.{AllByRecursion}
use Rattle.save_text.specs.Telling.{IsNarrowBuilt}
use Rattle.save_text.specs.Inside.Told.{told_built}
use Rattle.save_text.proofs.narrow.is_each_built_narrow.Given as goal

-- what is left decides
abbrev pub invariant-loop-of : goal.invariant-loop-of
invariant-loop-of l = AllByRecursion IsNarrowBuilt (map (told_built l.tree.map) (drop l.of-index l.built)) ↔ AllByRecursion IsNarrowBuilt (map (told_built l.tree.map) l.built)
