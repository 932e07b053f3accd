use Rattle.std.proofs.Common.{ℕ, nat_cmp, take}
use Rattle.std.specs.Prelude.{option_map}
use Rattle.std.specs.Map.{keys_of}
use Rattle.std.specs.FinMap as map
use Rattle.mark_set.specs.Inside.Builds.{Covers}
use Rattle.mark_set.proofs.walks.found_ids.Given as goal

abbrev pub invariant-loop-i : goal.invariant-loop-i
invariant-loop-i l = Covers (λ (id : ℕ). option_map (λ _. tt) (map.get (map.from_entries {R = nat_cmp} l.markers.entries) id)) (map.from_entries {R = nat_cmp} l.found.entries) (keys_of (take l.i l.markers.entries))
