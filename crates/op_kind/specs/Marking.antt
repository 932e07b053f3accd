-- What happens to markers and synchronisation bytes of resources.
use Rattle.std.specs.Prelude.{ℕ, Bool, false, not, List, [], ◌∷◌, map, filter, length, is_some, Option, Some, None, if◌then◌else◌}
use Rattle.std.specs.List.{sum_by}
use Rattle.std.specs.FinMap.{entries, get, insert, remove, retain_keys}
use Rattle.std.specs.Option.{option_map}
use Rattle.res_path.specs.Paths.{Names}
use Rattle.mark_set.specs.declared.marker.Marker.{Marker}
use Rattle.mark_set.specs.declared.value.RawValue.{RawValue}
use Rattle.mark_set.specs.Markers.{Marks, new_marker, with_attribute, has_type, ids_of_type}
use Rattle.ws_elem.specs.declared.depth.Depth.{Depth}
use Rattle.ws_elem.specs.declared.element.Element.{Element}
use Rattle.ws_elem.specs.Depths.{is_within}
use Rattle.ws_elem.specs.Trees.{Tree}
use Rattle.op_kind.specs.Entries.{Entries}
use Rattle.op_kind.specs.Members.{put_all}

-- ---- one resource

-- a marker with this id is there
abbrev pub has_marker : ℕ → Option Element → Bool
has_marker id None = false
has_marker id (Some e) = is_some (get e.attached.marks id)

-- with its markers changed so
abbrev pub with_marks : (Marks → Marks) → Element → Element
with_marks change e = record e { attached = record e.attached { marks = change e.attached.marks } }

-- with one more marker
abbrev pub with_marker : Marks → ℕ → List ℕ → List (List ℕ × RawValue) → Marks
with_marker marks id mark_type attributes = insert marks id (new_marker id mark_type attributes)

-- with this marker under the id, if there is one
abbrev pub put_marker : Marks → ℕ → Option Marker → Marks
put_marker marks id None = marks
put_marker marks id (Some marker) = insert marks id marker

-- one attribute of the marker gets this value, or goes where there is none
abbrev pub with_attribute_of : Marks → ℕ → List ℕ → Option RawValue → Marks
with_attribute_of marks id name value = put_marker marks id (option_map (λ marker. with_attribute marker name value) (get marks id))

-- without the markers of this type
abbrev pub unmarked : List ℕ → Element → Element
unmarked mark_type e = record e { attached = record e.attached { marks = retain_keys e.attached.marks (λ id. not (has_type mark_type (get e.attached.marks id))) } }

-- how many markers of this type
abbrev pub count_marks : List ℕ → Element → ℕ
count_marks mark_type e = length (ids_of_type mark_type e.attached.marks)

-- without the markers with these ids
abbrev pub removed : Marks → List ℕ → Marks
removed marks [] = marks
removed marks (id ∷ ids) = removed (remove marks id) ids

-- without the bytes of the partner with this number
abbrev pub unsynced : ℕ → Element → Element
unsynced number e = record e { attached = record e.attached { syncs = remove e.attached.syncs number } }

-- 1 where that partner has bytes
abbrev pub count_bytes : ℕ → Element → ℕ
count_bytes number e = if is_some (get e.attached.syncs number) then 1 else 0

-- ---- a resource and what is below it

-- what is at p and below it, no deeper than the depth says
abbrev pub reached : Tree → Names → Depth → Entries
reached t p depth = filter (λ e. is_within depth p e.0) (entries t)

-- each of these is changed so
abbrev pub change_all : (Element → Element) → Entries → Entries
change_all change = map (λ e. (e.0, change e.1))

-- the tree in which all that is reached is changed so
abbrev pub change_within : Tree → Names → Depth → (Element → Element) → Tree
change_within t p depth change = put_all t (change_all change (reached t p depth))

-- how much all of these have
abbrev pub count_all : (Element → ℕ) → Entries → ℕ
count_all count = sum_by (λ e. count e.1)
