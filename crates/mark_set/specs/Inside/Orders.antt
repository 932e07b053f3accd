-- The ids of a table, in order.
use Rattle.std.specs.Prelude.{◌≡◌, ℕ, List, option_map, IsSome}
use Rattle.std.specs.List.{filter_map, AllByRecursion}
use Rattle.std.specs.Ordering.{nat_cmp}
use Rattle.std.specs.FinMap.{FinMap, get}
use Rattle.mark_set.specs.Markers.{Marks}
use Rattle.mark_set.specs.declared.marker.Marker.{Marker}

-- these are the ids of the markers
abbrev pub HasIds : FinMap nat_cmp (Unit {0}) → Marks → Type 0
HasIds ids marks = (id : ℕ) → get ids id ≡ option_map (λ _. tt) (get marks id)

-- the markers with these ids
abbrev pub markers_at : Marks → List (ℕ × Unit {0}) → List Marker
markers_at marks = filter_map (λ id. get marks id.0)

-- each of these ids has a marker
abbrev pub AreThere : Marks → List (ℕ × Unit {0}) → Type 0
AreThere marks = AllByRecursion (λ id. IsSome (get marks id.0))
