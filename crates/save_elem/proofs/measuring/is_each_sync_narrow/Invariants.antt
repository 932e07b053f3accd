use Rattle.std.proofs.Common.{◌↔◌, map}
use Rattle.std.specs.List.{AllByRecursion}
use Rattle.std.specs.FinMap.{entries}
use Rattle.save_elem.specs.Telling.{told_sync, IsNarrowSync}
use Rattle.save_elem.proofs.measuring.is_each_sync_narrow.Given as goal

-- what is left decides
abbrev pub invariant-loop-bytes : goal.invariant-loop-bytes
invariant-loop-bytes l = AllByRecursion IsNarrowSync (map told_sync l.bytes-iterator) ↔ AllByRecursion IsNarrowSync (map told_sync (entries l.syncs))
