use Rattle.std.proofs.Common.{nat_cmp, take, ◌++◌}
use Rattle.std.specs.Map.{keys_of}
use Rattle.std.specs.FinMap as map
use Rattle.mark_set.specs.Inside.Builds.{Covers}
use Rattle.mark_set.specs.Deltas.{difference_at}
use Rattle.mark_set.proofs.walks.note_new.Given as goal

abbrev pub invariant-loop-i : goal.invariant-loop-i
invariant-loop-i l = Covers (difference_at l.old.entries l.new.entries) (map.from_entries {R = nat_cmp} l.found.entries) (keys_of l.old.entries ++ keys_of (take l.i l.new.entries))
