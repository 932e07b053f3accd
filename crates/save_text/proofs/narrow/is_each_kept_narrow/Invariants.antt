use Rattle.std.proofs.Common.{◌↔◌, map, drop}
use Rattle.std.specs.List.{AllByRecursion}
use Rattle.save_text.specs.Telling.{IsNarrowKept}
use Rattle.save_text.specs.Inside.Told.{told_kept}
use Rattle.save_text.proofs.narrow.is_each_kept_narrow.Given as goal

-- what is left decides
abbrev pub invariant-loop-of : goal.invariant-loop-of
invariant-loop-of l = AllByRecursion IsNarrowKept (map (told_kept l.tree.map) (drop l.of-index l.kept)) ↔ AllByRecursion IsNarrowKept (map (told_kept l.tree.map) l.kept)
