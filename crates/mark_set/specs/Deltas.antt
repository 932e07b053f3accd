-- What became of each marker between two sets: one delta for each id at which they differ, in the order of ids.
use Rattle.std.specs.Prelude.{ℕ, ◌++◌, List, filter_map, Option, Some, None, option_map, if◌then◌else◌}
use Rattle.std.specs.Ordering.{nat_cmp}
use Rattle.std.specs.FinMap.{FinMap, empty, from_entries, get, keys, values}
use Rattle.mark_set.specs.Markers.{Marks, same_marker}
use Rattle.mark_set.specs.declared.marker.Marker.{Marker}
use Rattle.mark_set.specs.declared.delta.MarkerDelta.{MarkerDelta}
use Rattle.mark_set.specs.declared.delta.Change.TheVariants.{Added, Removed, Changed}

-- of a marker that came: its type, and no old attributes
abbrev pub added : Marker → MarkerDelta
added marker = record { id = marker.id; change = Added; mark_type = marker.mark_type; old = empty }

-- of one that went: its type and its attributes
abbrev pub removed : Marker → MarkerDelta
removed marker = record { id = marker.id; change = Removed; mark_type = marker.mark_type; old = marker.attrs }

-- of one that differs: the type and the attributes that it had
abbrev pub changed : Marker → MarkerDelta
changed marker = record { id = marker.id; change = Changed; mark_type = marker.mark_type; old = marker.attrs }

-- whether a marker that is there came
abbrev pub came : Option Marker → Marker → Option MarkerDelta
came None after = Some (added after)
came (Some before) after = None

-- what became of one marker
abbrev pub difference : Option Marker → Option Marker → Option MarkerDelta
difference None None = None
difference None (Some after) = Some (added after)
difference (Some before) None = Some (removed before)
difference (Some before) (Some after) = if same_marker before after then None else Some (changed before)

-- the same of the marker with an id, in two lists of entries
abbrev pub difference_at : List (ℕ × Marker) → List (ℕ × Marker) → ℕ → Option MarkerDelta
difference_at old new id = difference (get (from_entries {R = nat_cmp} old) id) (get (from_entries {R = nat_cmp} new) id)

-- what became of each marker, by id
abbrev pub differences : Marks → Marks → FinMap nat_cmp MarkerDelta
differences old new = from_entries (filter_map (λ id. option_map (λ delta. (id, delta)) (difference (get old id) (get new id))) (keys old ++ keys new))

-- the same as a list
unfoldable pub marker_deltas : Marks → Marks → List MarkerDelta
marker_deltas old new = values (differences old new)
